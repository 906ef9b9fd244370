-- The Kullback-Leibler figure of the iteration just finished, or why there is none. Definitions only.
-- y is the lent copy: the positions before that iteration's step.
use Rattle.std.specs.Prelude.{List, ◌≡◌, Bool, true, false, cond, not, ◌&&◌, ◌||◌, ℕ, ◌+◌, ◌*◌, ◌≤◌, min, eqb, leb, length, Float, Result, Ok, Err}
use Rattle.std.specs.Float.Ieee.{eq}
use Rattle.laws.specs.Domain.{early_iterations}
use Rattle.laws.specs.Area.{at, bits, zero64, one64}
use Rattle.gradient.specs.Element.{share_sum_of, normaliser_of}
use Rattle.divergence_sums.specs.Sums.{kl_dense, kl_lists, AllLinked}
use Rattle.run_record.specs.declared.Run.{Run}
use Rattle.run_record.specs.Record.{is_tree, GoodSettings}
use Rattle.run_entry.specs.State.{Memory}
use Rattle.run_entry.specs.Entry.{Found, by_tests, fault_at, fault_number}
use Rattle.refusal.specs.Refusal.{number_told}
use Rattle.divergence.specs.declared.DivergenceFault.{DivergenceFault}
use Rattle.divergence.specs.declared.DivergenceFault.TheVariants.{Early, Bad}

-- what the iteration just finished went by: 12 where at most 250 are done, else 1
unfoldable pub last_exaggeration : Run → Float
last_exaggeration r = cond (leb r.done early_iterations) (bits 0x4028000000000000) one64

-- what the forces give in all: Barnes-Hut, the sum of the shares before its floor; exact, the value at place n·c
unfoldable pub total_of : Run → List Float → Float
total_of r F = cond (is_tree r.settings.method) (share_sum_of F r.settings.n r.settings.c) (at F (r.settings.n * r.settings.c))

-- a zero of either sign; NaN is none
abbrev pub is_zero : Float → Bool
is_zero x = eq x zero64

-- an iteration has just ended: one is done, and no unit of the next
unfoldable pub just_ended : Run → Bool
just_ended r = not (eqb r.done 0) && eqb r.phase 0

-- 17: none has just ended, or the forces give a total of 0
unfoldable pub too_early : Run → List Float → Bool
too_early r F = not (just_ended r) || is_zero (total_of r F)

-- the figure, by method: W, I and O are affinities, indices and offsets, F the forces
unfoldable pub figure_of : Run → List Float → List ℕ → List ℕ → List Float → List Float → Float
figure_of r W I O F y =
    let n = r.settings.n in
    let c = r.settings.c in
    cond (is_tree r.settings.method) (kl_lists y W I O (last_exaggeration r) (normaliser_of F n c) n c) (kl_dense y W (last_exaggeration r) (total_of r F) n c)

-- ---- the order of the tests

-- as in a work call, the copy an area like the positions: the shorter of the two is tested
unfoldable pub divergence_fault : Run → Memory → List Float → Found
divergence_fault r m y = fault_at r (min (length m.positions) (length y)) (length m.increments) (length m.gains) (length m.affinities)
    (length m.forces) m.indices m.offsets m.nodes

-- then 17; else the figure
unfoldable pub after_tests : Found → Run → List Float → List ℕ → List ℕ → List Float → List Float → Result Float DivergenceFault
after_tests f r W I O F y = by_tests f (cond (too_early r F) (Err Early) (Ok (figure_of r W I O F y))) (λ b. Err (Bad b))

unfoldable pub divergence_of : Run → Memory → List Float → Result Float DivergenceFault
divergence_of r m y = after_tests (divergence_fault r m y) r m.affinities m.indices m.offsets m.forces y

-- the number of a refusal; 0 where there is none
abbrev pub divergence_fault_number : DivergenceFault → ℕ
divergence_fault_number Early = 17
divergence_fault_number (Bad f) = fault_number f

abbrev pub divergence_number : Result Float DivergenceFault → ℕ
divergence_number a = number_told divergence_fault_number a

-- ---- what the tests have shown

-- the total is read within the forces
pub record TotalRoom (r : Run) (F : List Float) : Type 0 where
  pub settings-good : GoodSettings r.settings
  pub forces-long : r.settings.n * (2 * r.settings.c + 1) ≤ length F

-- the figure within affinities, lists, forces and copy
pub record FigureRoom (r : Run) (W : List Float) (I O : List ℕ) (F y : List Float) : Type 0 where
  pub total-room : TotalRoom r F
  pub copy-long : r.settings.n * r.settings.c ≤ length y
  pub exact-long : is_tree r.settings.method ≡ false → r.settings.n * r.settings.n ≤ length W
  pub lists-within : is_tree r.settings.method ≡ true → AllLinked r.settings.n W I O
