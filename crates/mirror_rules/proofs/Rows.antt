-- The exact gradient in the mirror: the squared distance of two points is equal to the bit. Assumes nothing.
use mathlib.Core.Path.{◌≡◌, refl, sym, ap, ◌∙◌}
use mathlib.Core.Bool.{Bool}
use Prim.Native.Nat.{ℕ, ◌<◌}
use native.Mathlib.Omega.{arith}
use lib.Ieee.{Float, binary64, add}
use Rattle.laws.specs.Loops.{loop}
use Rattle.laws.specs.Area.{zero64}
use Rattle.laws.proofs.Loops.{loop-same}
use Rattle.tree_bodies.specs.Bodies.{gap_step, gap_of}
use Rattle.mirror_values.specs.Values.{Shows}
use Rattle.mirror_values.proofs.Shows.{shows-sub, shows-square}

-- ---- the squared distance of two points is equal to the bit

gap-shape : (c : ℕ) (p q : ℕ → Float) → gap_of c p q ≡ loop (gap_step p q) c 0 zero64
unfolding gap_of
gap-shape c p q = refl

pub gap_same : (turns : ℕ → Bool) (c : ℕ) (p q p' q' : ℕ → Float) → ((d : ℕ) → d < c → Shows (turns d) (p d) (p' d)) → ((d : ℕ) → d < c → Shows (turns d) (q d) (q' d)) → gap_of c p q ≡ gap_of c p' q'
gap_same turns c p q p' q' h k =
    gap-shape c p q
    ∙ loop-same (gap_step p q) (gap_step p' q') c 0 zero64 (λ d s _ l. ap (add binary64 s) (shows-square (shows-sub (h d (omega arith)) (k d (omega arith)))))
    ∙ sym (gap-shape c p' q')
