-- The descent is a lawful machine, and honest states are its good ones. Assumes nothing.
use mathlib.Core.Path.{◌≡◌}
use mathlib.Core.Bool.{false}
use Prim.Native.Nat.{◌+◌, ◌-◌, ◌≤◌}
use native.Mathlib.Omega.{arith}
use native.Mathlib.Nat.{mul-le-mul}
use Rattle.laws.proofs.Bools.{by_bool}
use Rattle.run_calls.specs.Machine.{Lawful, stops}
use Rattle.run_record.specs.Record.{is_ended, most_units}
use Rattle.run_record.proofs.Laws.{per-most}
use Rattle.run_entry.specs.State.{State}
use Rattle.run_entry.specs.Entry.{Good}
use Rattle.run_entry.proofs.Laws.{fault-good}
use Rattle.run_units.specs.Units.{unit}
use Rattle.run_budget.specs.Budget.{machine}
use Rattle.descent.specs.Descent.{whole_units, units_left}
use Rattle.descent.specs.Honest.{Honest}
use Rattle.run_budget.proofs.Counters.{units-below}
use Rattle.run_budget.proofs.Keeps.{unit-counts, unit-settings}
use Rattle.descent.proofs.Grown.{honest-keeps}
use Rattle.run_budget.proofs.Spends.{due}

pub rest_live : (s : State) → is_ended s.run.standing ≡ false → units_left s ≡ whole_units s - s.run.units
unfolding units_left
rest_live s e = rw e

pub rest-most : (s : State) → units_left s ≤ whole_units s - s.run.units
unfolding units_left
rest-most s = by_bool (units_left s ≤ whole_units s - s.run.units) (is_ended s.run.standing) (λ e. rw e (omega arith)) (λ e. rw e (omega arith))

pub whole-units-most : (s : State) → Good s → whole_units s ≤ most_units
whole-units-most s g = mul-le-mul g.settings.iterations-most (per-most s.run.settings.method s.run.settings.n g.settings.n-most)

pub whole_same : (s : State) → is_ended s.run.standing ≡ false → whole_units (unit s).now ≡ whole_units s
whole_same s live = rw (unit-settings s live)

-- a unit that is done is counted by the record
pub due-counts : (s : State) → stops machine s ≡ false → (unit s).now.run.units ≡ s.run.units + 1
due-counts s e = unit-counts s (due s e).0 (due s e).1

unfoldable pub lawful : Lawful machine
lawful = record {
  Good = Honest;
  rest = units_left;
  passes = λ s g. rw (fault-good s g.good);
  keeps = λ s g e. honest-keeps s g (due s e).0 (due s e).1;
  lessens = λ s g e. (let d = due s e in
      let c = unit-counts s d.0 d.1 in
      let b = units-below s.run d.0 g.good.counters in
      let l = rest_live s d.0 in
      let m = rest-most (unit s).now in
      let w = whole_same s d.0 in
      omega arith);
  small = λ s g. (let m = rest-most s in let w = whole-units-most s g.good in omega arith);
}
