-- A start with the sign of components turned: turned again it is the start, turns may be done in either order, and it shows the start. Assumes nothing.
use mathlib.Core.Path.{◌≡◌, refl, sym, ap, fun_ext, ◌∙◌}
use mathlib.Core.List.{List, []}
use mathlib.Core.Bool.{Bool, true, false}
use Prim.Native.Nat.{ℕ, ◌%◌, ◌<◌}
use lib.ListN.{length, get_or-append}
use lib.Seq.{ext_get_or}
use lib.Ieee.{Float, nan, unlike}
use Rattle.laws.specs.Area.{at}
use Rattle.laws.proofs.Laid.{singles-size, singles-get}
use Rattle.mirror_values.specs.Values.{Shows}
use Rattle.mirror_values.specs.Shown.{either_not_both, turned_if, turned_start}
use Rattle.mirror_values.proofs.Rounded.{neg-neg}
use Rattle.mirror_values.proofs.Shows.{shows-turned}

pub turned-long : (turns : ℕ → Bool) (c : ℕ) (start : List Float) → length (turned_start turns c start) ≡ length start
unfolding turned_start
turned-long turns c start = singles-size (λ i. turned_if (turns (i % c)) (at start i)) (length start)

pub turned-at : (turns : ℕ → Bool) (c : ℕ) (start : List Float) (i : ℕ) → i < length start → at (turned_start turns c start) i ≡ turned_if (turns (i % c)) (at start i)
unfolding turned_start
turned-at turns c start i h =
    sym (get_or-append (turned_start turns c start) [] nan i (rw (turned-long turns c start) h))
    ∙ singles-get (λ i. turned_if (turns (i % c)) (at start i)) (length start) i [] nan h

turn_twice : (b : Bool) (x : Float) → turned_if b (turned_if b x) ≡ x
unfolding turned_if
turn_twice true x = neg-neg x
turn_twice false x = refl

turn-both : (a b : Bool) (x : Float) → turned_if a (turned_if b x) ≡ turned_if (unlike a b) x
unfolding turned_if
turn-both true true x = neg-neg x
turn-both true false x = refl
turn-both false true x = refl
turn-both false false x = refl

unlike-swap : (a b : Bool) → unlike a b ≡ unlike b a
unlike-swap true true = refl
unlike-swap true false = refl
unlike-swap false true = refl
unlike-swap false false = refl

module _ (turns : ℕ → Bool) (c : ℕ) (start : List Float) where
  -- turning twice gives the start back, to the bit
  pub turned-twice : turned_start turns c (turned_start turns c start) ≡ start
  turned-twice = ext_get_or nan (turned_start turns c (turned_start turns c start)) start long
      (λ i h. let l : i < length start = rw long at h in turned-at turns c (turned_start turns c start) i (rw (turned-long turns c start) l) ∙
      rw (turned-at turns c start i l) (turn_twice (turns (i % c)) (at start i)))
    where
      long : length (turned_start turns c (turned_start turns c start)) ≡ length start
      long = turned-long turns c (turned_start turns c start) ∙ turned-long turns c start

  -- after a turn of other components only those stand turned that are so in one of the two
  pub turned-together : (others : ℕ → Bool) → turned_start others c (turned_start turns c start) ≡ turned_start (either_not_both others turns) c start
  turned-together others = ext_get_or nan (turned_start others c (turned_start turns c start)) (turned_start (either_not_both others turns) c start)
      (long ∙ sym (turned-long (either_not_both others turns) c start))
      (λ i h. let l : i < length start = rw long at h in
      turned-at others c (turned_start turns c start) i (rw (turned-long turns c start) l)
      ∙ ap (turned_if (others (i % c))) (turned-at turns c start i l)
      ∙ turn-both (others (i % c)) (turns (i % c)) (at start i)
      ∙ sym (turned-at (either_not_both others turns) c start i l))
    where
      long : length (turned_start others c (turned_start turns c start)) ≡ length start
      long = turned-long others c (turned_start turns c start) ∙ turned-long turns c start

  -- it shows the start
  pub turned-shows : (i : ℕ) → i < length start → Shows (turns (i % c)) (at start i) (at (turned_start turns c start) i)
  turned-shows i h = rw (turned-at turns c start i h) (shows-turned (turns (i % c)) (at start i))

-- turns of two sets, so of two components, may be done in either order
pub turned-either : (turns others : ℕ → Bool) (c : ℕ) (start : List Float) → turned_start others c (turned_start turns c start) ≡ turned_start turns c (turned_start others c start)
turned-either turns others c start =
    turned-together turns c start others
    ∙ ap (λ (t : ℕ → Bool). turned_start t c start) (fun_ext (λ d. unlike-swap (others d) (turns d)))
    ∙ sym (turned-together others c start turns)
