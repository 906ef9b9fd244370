-- Barnes-Hut runs whose positions do not show each other in the mirror, computed: of two points, the fewest there may be, and of three at -1, 0 and 1. Assumes nothing.
use mathlib.Core.Path.{◌≡◌, refl, sym, ◌∙◌}
use mathlib.Core.Bool.{true, false, true≢false}
use lib.Dec.{lit<}
use lib.Ieee.{Float, of_bits, of_int, is_nan, size, add, sub, mul, div, lt, le, eq, neg}
use Rattle.laws.specs.Loops.{loop, every, until, seek}
use Rattle.laws.specs.Area.{at, bits}
use Rattle.tree_node.specs.Arena.{leaf_of, node_of, nodes_of}
use Rattle.elementary.specs.Limits.{up_to, neighbours_of, ceil_of, abs_of, unless_above}
use Rattle.affinity.specs.Neighbours.{neighbours_listed}
use Rattle.run_record.specs.Record.{fresh_run, early_fault, late_fault, settings_fault, counters_ok, state_fits, per_of, advanced_of}
use Rattle.run_record.specs.Record.{closed_of, stops_now, sizes_of, positive, above_zero, angle_fine, angle_fault}
use Rattle.run_entry.specs.Entry.{tree_fits, areas_fit, fault_of, fault_at, record_fault, contents_fault, offset_fine, index_fine, tree_fault_at}
use Rattle.tree_bounds.specs.Bounds.{box_of}
use Rattle.tree.specs.Insert.{built, insert_of}
use Rattle.gradient.specs.Forces.{forces_of}
use Rattle.gradient.specs.Element.{norm_of, gradient_of, normaliser_of}
use Rattle.step_passes.specs.Passes.{element_at, centred_by}
use Rattle.step.specs.Step.{finish_of}
use Rattle.run_calls.specs.Machine.{call, go, units_done, stops, kind_at}
use Rattle.run_plan.specs.Plan.{group_of, exaggeration_of, momentum_of}
use Rattle.run_finish.specs.Finish.{finish_unit}
use Rattle.run_units.specs.Units.{unit, tree_unit, insert_turn, force_unit}
use Rattle.run_budget.specs.Budget.{answer_of}
use Rattle.descent.specs.Descent.{work}
use Rattle.prepare.specs.Prepare.{prepared, prepare_fault, lengths_fit, routed}
use Rattle.mirror_values.specs.Values.{Opposite}
use Rattle.mirror_values.specs.Shown.{just_one, turned_start, ShowsAll}
use Rattle.mirror_values.proofs.Alikes.{alike_refl, alike-eq}
use Rattle.mirror_values.proofs.Opposites.{opposite_alike}
use Rattle.mirror_cases.specs.Cases.{line_turned, close_pair, pair_left, three, three_forces, PairTold, ThreeTold}

-- ---- what is computed

pub pair-told : PairTold
unfolding turned_start prepared prepare_fault early_fault positive above_zero angle_fault angle_fine every up_to late_fault lengths_fit areas_fit sizes_of tree_fits
    neighbours_of ceil_of routed neighbours_listed fresh_run nodes_of node_of leaf_of work answer_of call go until units_done stops kind_at fault_of fault_at record_fault
    settings_fault counters_ok state_fits per_of contents_fault offset_fine index_fine seek tree_fault_at unit tree_unit box_of insert_turn insert_of force_unit forces_of
    finish_unit finish_of norm_of group_of exaggeration_of momentum_of advanced_of closed_of stops_now element_at centred_by gradient_of normaliser_of abs_of unless_above loop
    of_bits of_int is_nan size add sub mul div lt le eq neg
pair-told = record { ready = (refl, refl); answer = (refl, refl); line = (refl, refl); nodes = (refl, refl); gradient = (refl, refl); other = (refl, refl); positions = refl; positions-turned = refl }

pub three-told : ThreeTold
unfolding turned_start built box_of forces_of loop of_bits of_int size add sub mul div lt eq neg
three-told = record { forward = refl; reversed = refl }

-- ---- so they do not show each other

-- no value but NaN is turned into one that is not equal to its negative
no-opposite : (x y : Float) → eq y y ≡ true → eq (neg x) y ≡ false → Opposite x y → ⊥
no-opposite x y t f o = true≢false (sym t ∙ sym (alike-eq (opposite_alike o) (alike_refl y)) ∙ f)

pair-apart : Opposite (bits 0x3aaa000000000000) (bits 0xbaab000000000000) → ⊥
unfolding of_bits neg eq
pair-apart o = no-opposite (bits 0x3aaa000000000000) (bits 0xbaab000000000000) refl refl o

-- THEOREM: two points. The positions of the second run are not those of the first with the component turned
pub pair-not-mirrored : ShowsAll (just_one 0) 1 2 (pair_left close_pair).memory.positions (pair_left (line_turned close_pair)).memory.positions → ⊥
pair-not-mirrored r = pair-apart (rw (pair-told.positions, pair-told.positions-turned) at ((r.shown 0 (lit< tt)).turned refl))

three-apart : Opposite (bits 0xbfd51eb851eb851f) (bits 0x3fd22d719c060f26) → ⊥
unfolding of_bits neg eq
three-apart o = no-opposite (bits 0xbfd51eb851eb851f) (bits 0x3fd22d719c060f26) refl refl o

-- THEOREM: nor are forces turned with three points at -1, 0 and 1
pub three-not-mirrored : Opposite (at (three_forces three) 1) (at (three_forces (line_turned three)) 1) → ⊥
three-not-mirrored o = three-apart (rw (three-told.forward, three-told.reversed) at o)
