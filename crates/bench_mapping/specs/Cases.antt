-- The scope paper's example, and refusals, computed by the checker.
use Rattle.std.specs.Prelude.{◌≡◌, refl, List, [], ◌∷◌, ◌++◌, ℕ, replicate, Ok, Err}
use Rattle.std.specs.Float.Ieee.{of_bits, of_int, is_nan, size, add, sub, mul, div, lt, le, eq, neg}
use Rattle.laws.specs.Area.{bits, zero64}
use Rattle.run_budget.specs.declared.Answer.TheVariants.{Finished}
use Rattle.bench_mapping.specs.declared.MapFault.TheVariants.{Record}
use Rattle.laws.specs.Loops.{loop, every, seek}
use Rattle.elementary.specs.Limits.{up_to, neighbours_of}
use Rattle.little.specs.Little.{little_of, value_at}
use Rattle.frames.specs.Frames.{picture_fine, side_fine, field_fine, spare_fine, values_fine, good_alone, may_follow, in_order, bad_at, frames_of, features_at, starts_at, frame_of}
use Rattle.affinity.specs.Neighbours.{neighbours_listed}
use Rattle.tree_node.specs.Arena.{nodes_of}
use Rattle.tree_bounds.specs.Bounds.{box_of}
use Rattle.tree.specs.Insert.{insert_of}
use Rattle.gradient.specs.Element.{normaliser_of, gradient_of}
use Rattle.gradient.specs.Forces.{forces_of}
use Rattle.step_passes.specs.Passes.{element_at, centred_by}
use Rattle.step.specs.Step.{finish_of}
use Rattle.run_calls.specs.Machine.{stops, units_done, kind_at, go, call}
use Rattle.run_record.specs.Record.{positive, angle_fine, angle_fault, early_fault, late_fault, settings_fault, per_of, state_fits, counters_ok, advanced_of, stops_now, closed_of, sizes_of, fresh_run}
use Rattle.run_entry.specs.Entry.{record_fault, tree_fits, areas_fit, offset_fine, index_fine, tree_fault_at, contents_fault, fault_at, fault_of}
use Rattle.run_plan.specs.Plan.{exaggeration_of, momentum_of, group_of}
use Rattle.run_finish.specs.Finish.{pace_of, finish_unit}
use Rattle.run_units.specs.Units.{insert_turn, tree_unit, force_unit, unit}
use Rattle.run_budget.specs.Budget.{answer_of}
use Rattle.descent.specs.Descent.{work}
use Rattle.prepare.specs.Prepare.{lengths_fit, prepare_fault, routed, prepared}
use Rattle.bench_mapping.specs.Mapping.{bench_settings, bench_table, bench_start, descended, mapped, map_of, map_number, zeros, mapped_as}

-- so many bytes of zero
abbrev none : ℕ → List ℕ
none n = replicate n 0

-- 1.0
abbrev one : List ℕ
one = none 6 ++ (240 ∷ 63 ∷ [])

-- pictures 101 and 102, side 1, features all 0 and first 1, starts (0, 0) and (1, 0)
abbrev first101 : List ℕ
first101 = 101 ∷ 0 ∷ 0 ∷ 0 ∷ 1 ∷ none 67

abbrev then102 : List ℕ
then102 = (102 ∷ 0 ∷ 0 ∷ 0 ∷ 1 ∷ none 3) ++ one ++ none 40 ++ one ++ none 8

-- an empty file
pub nothing-7 : map_number (map_of []).told ≡ 7
unfolding map_of of_bits add sub mul div lt le eq neg of_int is_nan size map_number frames_of seek mapped descended prepared prepare_fault early_fault bench_settings positive angle_fault angle_fine
nothing-7 = refl

-- one record
pub single-9 : map_number (map_of first101).told ≡ 9
unfolding map_of of_bits add sub mul div lt le eq neg of_int is_nan size map_number frames_of seek bad_at good_alone picture_fine little_of side_fine field_fine spare_fine
    values_fine every up_to value_at in_order may_follow mapped descended prepared prepare_fault early_fault bench_settings positive angle_fault angle_fine bench_table
    loop frame_of features_at late_fault
single-9 = refl

-- one record and a tail
pub tail-16 : (map_of (first101 ++ none 1)).told ≡ Err (Record 1)
unfolding map_of of_bits add sub mul div lt le eq neg of_int is_nan size frames_of seek bad_at good_alone picture_fine little_of side_fine field_fine spare_fine values_fine every
    up_to value_at in_order may_follow
tail-16 = refl

-- the whole outcome of the example
pub example : map_of (first101 ++ then102) ≡ mapped_as (Ok (Finished 6)) (bits 0x4050600000000000 ∷ zero64 ∷ bits 0xc050600000000000 ∷ zeros 125)
unfolding map_of of_bits add sub mul div lt le eq neg of_int is_nan size frames_of seek bad_at good_alone picture_fine little_of side_fine field_fine spare_fine values_fine
    every up_to value_at in_order may_follow mapped descended prepared prepare_fault early_fault bench_settings positive angle_fault angle_fine bench_table loop frame_of
    features_at late_fault bench_start starts_at lengths_fit areas_fit sizes_of tree_fits neighbours_of nodes_of work answer_of call fault_of fault_at record_fault
    settings_fault fresh_run counters_ok state_fits per_of routed neighbours_listed contents_fault offset_fine index_fine tree_fault_at go kind_at stops unit group_of
    tree_unit advanced_of insert_turn insert_of box_of finish_unit finish_of element_at gradient_of pace_of force_unit forces_of exaggeration_of normaliser_of momentum_of
    centred_by closed_of stops_now units_done
example = refl
