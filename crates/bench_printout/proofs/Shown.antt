-- A file that has a map has as many frames as are shown. Assumes nothing.
use mathlib.Core.Path.{◌≡◌, sym, ap, ◌∙◌}
use mathlib.Core.List.{List}
use mathlib.Core.Bool.{Bool, true, false, true≢false}
use Prim.Native.Nat.{ℕ, ◌/◌, ◌≤◌, min}
use native.Mathlib.Omega.{arith}
use native.Mathlib.Decide.{dec_lt}
use lib.ListN.{length}
use Rattle.frames.specs.Frames.{whole_records}
use Rattle.run_budget.specs.declared.Answer.{Answer}
use Rattle.std.specs.Prelude.{Result, Ok, Err}
use Rattle.bench_mapping.specs.declared.MapFault.{MapFault}
use Rattle.bench_mapping.specs.declared.Mapped.{Mapped}
use Rattle.bench_mapping.specs.Mapping.{bench_bytes, map_of}
use Rattle.bench_mapping.proofs.Laws.{too_long}
use Rattle.bench_printout.specs.Printed.{frames_shown}

-- whether a run was made and worked
abbrev answered : Result Answer MapFault → Bool
answered (Err e) = false
answered (Ok a) = true

pub all_shown : (file : List ℕ) (a : Answer) → (map_of file).told ≡ Ok a → frames_shown file ≡ whole_records file
all_shown file a e = elim (dec_lt bench_bytes (length file)) [
  | yes l ↦ absurd (true≢false (ap answered (sym e ∙ ap (λ (m : Mapped). m.told) (sym (too_long file l)))))
  | no l ↦ few (length file) (omega arith)
]
  where
    few : (n : ℕ) → n ≤ 4608 → min (n / 72) 64 ≡ n / 72
    few n h = omega arith
