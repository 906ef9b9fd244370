-- A gradient row gathered in parts is the row. Assumes nothing.
use mathlib.Core.Path.{◌≡◌}
use mathlib.Core.List.{List}
use Prim.Native.Nat.{ℕ, ◌+◌, ◌*◌, ◌≤◌}
use lib.ListN.{length}
use lib.Ieee.{Float, nan}
use Rattle.laws.specs.Loops.{loop}
use Rattle.laws.specs.Area.{at}
use Rattle.laws.proofs.Loops.{loop-moved}
use Rattle.laws.proofs.Written.{written_at}
use Rattle.gradient_pairs.specs.declared.Pulls.{Pulls}
use Rattle.gradient_pairs.specs.Exact.{num_of, push_of, pull_step, num_laid, weight_laid, weighed_step}

-- frames that take their weights, and these their numerators, from where they were laid
pub gathered-in-parts :
    (y P : List Float) (exaggeration total : Float) (n c i j m : ℕ) (a b : List Float) (x : Pulls) → m ≤ length a → m ≤ length b →
    loop (weighed_step (loop (weight_laid (loop (num_laid y c i j) m 0 a) P exaggeration total n i j) m 0 b) y c j) m 0 x ≡ loop (pull_step y P exaggeration total n c i) m j x
gathered-in-parts y P exaggeration total n c i j m a b x h g =
    let nums = loop (num_laid y c i j) m 0 a in
    loop-moved (pull_step y P exaggeration total n c i) (weighed_step (loop (weight_laid nums P exaggeration total n i j) m 0 b) y c j) j m x
    (λ k s l. rw (written_at (λ k. push_of (at P (i * n + (j + k))) exaggeration (at nums k) total) nan m b g k l, written_at (λ k. num_of y c i (j + k)) nan m a h k l))
