-- What the step leaves is the finish that the definition names. Assumes nothing.
use mathlib.Core.Path.{◌≡◌, sym}
use mathlib.Core.List.{List}
use Prim.Native.Nat.{ℕ}
use lib.Ieee.{Float}
use Rattle.run_record.specs.declared.Run.{Run}
use Rattle.run_record.specs.Record.{closed_of}
use Rattle.std.specs.Prelude.{Result, Ok, Err}
use Rattle.refusal.specs.declared.Refusal.{Refusal}
use Rattle.refusal.specs.Refusal.{refusal_number, numbered}
use Rattle.step_passes.specs.Passes.{Before}
use Rattle.step.specs.Step.{step_outcome, finish_of}
use Rattle.run_finish.specs.declared.Halt.TheVariants.{Wild}
use Rattle.run_finish.specs.Finish.{finish_turn, finish_as}

module _ (r : Run) (b : Before) (n c : ℕ) (y v g : List Float) (a : Result (Unit {0}) Refusal) (q : step_outcome (numbered refusal_number a) y v g ≡ finish_of b n c) where
  pub finish-moved : {t : Run} {norm top : Float} → a ≡ Ok tt → norm ≡ top → t ≡ closed_of r norm → finish_turn t y v g (Ok tt) ≡ finish_as r top (finish_of b n c) (finish_of b n c).answer
  finish-moved e m t = rw (sym q, e, t, m)

  pub finish-wild : (top : Float) (k : Refusal) → a ≡ Err k → finish_turn r y v g (Err Wild) ≡ finish_as r top (finish_of b n c) (finish_of b n c).answer
  finish-wild top k e = rw (sym q, e)
