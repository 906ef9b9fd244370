-- Areas that show each other stay so where both are written alike; loops that go alike leave what is alike. Assumes nothing.
use mathlib.Core.Path.{◌≡◌, refl, sym, ◌∙◌}
use mathlib.Core.Logic.{inl, inr}
use mathlib.Core.List.{List}
use mathlib.Core.Bool.{Bool}
use Prim.Native.Nat.{ℕ, zero, suc, ◌+◌, ◌%◌, ◌<◌, ◌≤◌}
use native.Mathlib.Omega.{arith}
use native.Mathlib.Decide.{ℕ_discrete}
use lib.ListN.{length, set, length-set}
use lib.Seq.{set_out, get_or-set_same, get_or-set_other}
use lib.Ieee.{Float, nan}
use Rattle.laws.specs.Loops.{loop}
use Rattle.laws.specs.Area.{at}
use Rattle.laws.proofs.Numbers.{order}
use Rattle.mirror_values.specs.Values.{Shows}
use Rattle.mirror_values.specs.Shown.{ShowsAll}

-- ---- two loops beside each other

module _ {A B : Type 0} (R : A → B → Type 0) (f : ℕ → A → A) (g : ℕ → B → B) where
  pub loop-both : (n k : ℕ) (x : A) (y : B) → ((j : ℕ) (x : A) (y : B) → k ≤ j → j < k + n → R x y → R (f j x) (g j y)) → R x y → R (loop f n k x) (loop g n k y)
  unfolding loop
  loop-both zero k x y h r = r
  loop-both (suc n) k x y h r = loop-both n (k + 1) (f k x) (g k y) (λ j u v a b q. h j u v (omega arith) (omega arith) q) (h k x y (omega arith) (omega arith) r)

-- ---- one place written in both

-- what holds of both at each place, and of what is written, holds afterwards
set_both : (P : Float → Float → Type 0) (xs ys : List Float) (i j : ℕ) (v w : Float) → length xs ≡ length ys → P (at xs j) (at ys j) → (j ≡ i → P v w) → P (at (set xs i v) j) (at (set ys i w) j)
set_both P xs ys i j v w e old new = elim (ℕ_discrete j i) [
  | yes q ↦ elim (order i (length xs)) [
    | inl l ↦ rw (set_out xs i v l, set_out ys i w (omega arith)) old
    | inr l ↦ rw (q, get_or-set_same xs i v nan l, get_or-set_same ys i w nan (omega arith)) (new q)
  ]
  | no q ↦ rw (get_or-set_other xs i j v nan q, get_or-set_other ys i j w nan q) old
]

module _ {turns : ℕ → Bool} {c m : ℕ} {xs ys : List Float} (r : ShowsAll turns c m xs ys) where
  pub put-shown : (i : ℕ) (v w : Float) → i < m → Shows (turns (i % c)) v w → ShowsAll turns c m (set xs i v) (set ys i w)
  put-shown i v w l p = record {
    long = length-set xs i v ∙ r.long ∙ sym (length-set ys i w);
    shown = λ j h. set_both (Shows (turns (j % c))) xs ys i j v w r.long (r.shown j h) (λ q. rw q p);
    past = λ j h. set_both (λ x y. x ≡ y) xs ys i j v w r.long (r.past j h) (λ q. absurd (omega arith));
  }

  pub put-past : (i : ℕ) (v : Float) → m ≤ i → ShowsAll turns c m (set xs i v) (set ys i v)
  put-past i v l = record {
    long = length-set xs i v ∙ r.long ∙ sym (length-set ys i v);
    shown = λ j h. set_both (Shows (turns (j % c))) xs ys i j v v r.long (r.shown j h) (λ q. absurd (omega arith));
    past = λ j h. set_both (λ x y. x ≡ y) xs ys i j v v r.long (r.past j h) (λ q. refl);
  }
