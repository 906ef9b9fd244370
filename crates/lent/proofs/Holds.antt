-- A test on which a walk branches: where it holds it is `true`, where it fails `false`. Assumes nothing.
use mathlib.Core.Path.{◌≡◌, refl, sym, ap, ◌∙◌}
use mathlib.Core.List.{List}
use mathlib.Core.Bool.{Bool, true, false, not}
use Prim.Native.Nat.{ℕ, ◌≤◌}
use native.Mathlib.Omega.{arith}
use lib.Dec.{T, eqb}
use lib.ListN.{length}
use borrow.Author.Tests.{eqb-false}

pub holds : (b : Bool) → T b → b ≡ true
holds true _ = refl
holds false a = absurd a

pub fails : (b : Bool) → T (not b) → b ≡ false
fails true a = absurd a
fails false _ = refl

-- of a test that is known to be a
pub holds_as : (b a : Bool) → b ≡ a → T b → a ≡ true
holds_as b a e t = sym e ∙ holds b t

pub fails-as : (b a : Bool) → b ≡ a → T (not b) → a ≡ false
fails-as b a e t = sym e ∙ fails b t

-- of a test whether an area of n words is empty
module _ {A : Type 0} (a : List A) (n : ℕ) (l : length a ≡ n) (b : Bool) (e : b ≡ eqb n 0) where
  pub empty-told : T b → eqb (length a) 0 ≡ true
  empty-told t = ap (λ (k : ℕ). eqb k 0) l ∙ holds_as b (eqb n 0) e t

  pub filled-told : T (not b) → eqb (length a) 0 ≡ false
  filled-told t = ap (λ (k : ℕ). eqb k 0) l ∙ fails-as b (eqb n 0) e t

  pub word_room : T (not b) → 1 ≤ length a
  word_room t = let ne = eqb-false (length a) 0 (filled-told t) in omega (arith, ne)
