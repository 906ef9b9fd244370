-- What the link of two frames tells: whether they are linked, and with which weight. Assumes nothing.
--     unlinked-weight      frames that are not linked have the weight +0.0
--     linked-told          a link has a weight where they are linked
--     weight-told          its weight, +0.0 where it has none, is that of the areas
use mathlib.Core.Path.{◌≡◌, refl, sym}
use mathlib.Core.List.{List}
use mathlib.Core.Bool.{Bool, true, false}
use Prim.Native.Nat.{ℕ, ◌*◌}
use lib.Ieee.{Float}
use Rattle.std.specs.Bool.{then_some}
use Rattle.std.specs.Option.{is_some, unwrap_or}
use Rattle.std.specs.Prelude.{Option}
use Rattle.laws.specs.Area.{zero64}
use Rattle.laws.proofs.Bools.{by_bool, or_left, or_right}
use lib.Dec.{ltb}
use Rattle.affinity_links.specs.Links.{past, fallen_of, sought_yes, sought_weight}

told : (b : Bool) (x : Float) → is_some (then_some b x) ≡ b
told true x = refl
told false x = refl

or-zero : (b : Bool) (x : Float) → (b ≡ false → x ≡ zero64) → unwrap_or (then_some b x) zero64 ≡ x
or-zero true x h = refl
or-zero false x h = sym (h refl)

module _ (S : List Float) (I O : List ℕ) (k i j c w : ℕ) where
  pub unlinked-weight : sought_yes I O k i j c w ≡ false → sought_weight S I O k i j c w ≡ zero64
  unfolding sought_yes sought_weight
  unlinked-weight e = by_bool (sought_weight S I O k i j c w ≡ zero64) (ltb j i)
      (λ b. let f = rw b at e in rw (b, or_left (ltb (fallen_of (past I (i * k)) c j) c) _ f, or_right (ltb (fallen_of (past I (i * k)) c j) c) (ltb (fallen_of (past I (j * k)) w i) w) f))
      (λ b. let f = rw b at e in rw (b, f))

  module _ (weight : Option Float) (given : weight ≡ then_some (sought_yes I O k i j c w) (sought_weight S I O k i j c w)) where
    pub linked-told : is_some weight ≡ sought_yes I O k i j c w
    linked-told = rw given (told _ _)

    pub weight-told : unwrap_or weight zero64 ≡ sought_weight S I O k i j c w
    weight-told = rw given (or-zero _ _ unlinked-weight)
