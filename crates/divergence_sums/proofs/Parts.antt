-- A row worked out in parts is the row. Assumes nothing.
use mathlib.Core.Path.{◌≡◌}
use mathlib.Core.List.{List}
use Prim.Native.Nat.{ℕ, ◌+◌, ◌≤◌}
use lib.ListN.{length}
use lib.Ieee.{Float, nan}
use Rattle.laws.specs.Loops.{loop}
use Rattle.laws.proofs.Loops.{loop-moved}
use Rattle.laws.proofs.Written.{written_at}
use Rattle.divergence_sums.specs.Sums.{kl_share, kl_share_step, kl_shared_step, kl_step}

-- pairs that take their shares from where they were laid
pub in_parts : (y P : List Float) (exaggeration total : Float) (n c i j m : ℕ) (l : List Float) (sum : Float) → m ≤ length l →
    loop (kl_shared_step (loop (kl_share_step y total c i j) m 0 l) P exaggeration n i j) m 0 sum ≡ loop (kl_step y P exaggeration total n c i) m j sum
in_parts y P exaggeration total n c i j m l sum h =
    loop-moved (kl_step y P exaggeration total n c i) (kl_shared_step (loop (kl_share_step y total c i j) m 0 l) P exaggeration n i j) j m sum
    (λ k s b. rw (written_at (λ k. kl_share y total c i (j + k)) nan m l h k b))
