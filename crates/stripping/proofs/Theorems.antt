-- What holds of every call that hands out frames: of one that is done, of one that is refused, and when it is done. Assumes nothing.
use mathlib.Core.Path.{◌≡◌, refl, sym, ap, subst, ◌∙◌}
use mathlib.Core.List.{List}
use mathlib.Core.Bool.{Bool, true, false, ◌||◌, true≢false}
use Prim.Native.Nat.{ℕ, ◌-◌, ◌<◌, ◌≤◌}
use native.Mathlib.Omega.{arith}
use lib.Dec.{ltb}
use lib.ListN.{length, set, drop, length-append, length-drop}
use lib.Seq.{drop-set-lt, drop_at}
use lib.Ieee.{Float, binary64, sub, to_bits}
use borrow.Author.Tests.{ltb-false, ne_eqb}
use Rattle.laws.specs.Area.{at, num}
use Rattle.laws.specs.Joined.{each}
use Rattle.laws.proofs.Bools.{by_bool, or_left, or_right}
use Rattle.laws.proofs.Loops.{loop-keeps}
use Rattle.laws.proofs.Joined.{length-singles, singles-at}
use Rattle.run_record.specs.Record.{is_ended}
use Rattle.run_entry.specs.State.{Memory}
use Rattle.run_entry.specs.Entry.{Found, is_fine}
use Rattle.run_entry.proofs.Laws.{found-none, found-some}
use Rattle.record_words.specs.RecordWords.{settings_of, standing_of}
use Rattle.strip_order.specs.Strip.{strip_place, strip_order, strip_gap, strip_gaps}
use Rattle.strip_order.proofs.Places.{place-below, order-size}
use Rattle.strip_profile.specs.Profile.{in_profile}
use Rattle.std.specs.Prelude.{Ok, Err}
use Rattle.hand_out.specs.HandOut.{Handed, calm_along, Handing, handing, along_line, hand_tested, hand_fault, handed_out}
use Rattle.hand_out.proofs.Laws.{all-calm, handed-along}
use Rattle.stripping.specs.Along.{HandedAlong}
use Rattle.stripping.proofs.Rule.{order-by-rule, gap-not-below}

-- ---- the tails

pub order-tail-kept : (y : List Float) (n : ℕ) (o : List ℕ) → drop n (strip_order y n o) ≡ drop n o
unfolding strip_order
order-tail-kept y n o = loop-keeps (λ k l. drop n l ≡ drop n o) (λ i l. set l (strip_place y n i) i) n 0 o (λ j l h e. drop-set-lt n l (strip_place y n j) j (place-below y n j (omega arith)) ∙ e) refl

module _ (y : List Float) (o : List ℕ) (n : ℕ) (g : List ℕ) where
  pub gaps-tail-kept : drop n (strip_gaps y o n g) ≡ drop n g
  unfolding strip_gaps
  gaps-tail-kept = drop_at (each (strip_gap y o) n) (drop n g) n (length-singles (strip_gap y o) n)

  pub gaps-size : n ≤ length g → length (strip_gaps y o n g) ≡ length g
  unfolding strip_gaps
  gaps-size h = length-append (each (strip_gap y o) n) (drop n g) ∙ omega (arith, length-singles (strip_gap y o) n, length-drop n g)

  pub gap_at : (q : ℕ) → q < n → num (strip_gaps y o n g) q ≡ strip_gap y o q
  unfolding strip_gaps
  gap_at q h = singles-at (strip_gap y o) n q (drop n g) h

no_gap : (y : List Float) (o : List ℕ) → strip_gap y o 0 ≡ 0
unfolding strip_gap
no_gap y o = refl

later-gap : (y : List Float) (o : List ℕ) (q : ℕ) → 0 < q → strip_gap y o q ≡ to_bits binary64 (sub binary64 (at y (num o q)) (at y (num o (q - 1))))
unfolding strip_gap
later-gap y o q h = rw (ne_eqb q 0 (λ e. omega arith))

-- ---- a call that is done

-- every test is passed
record Through (f : Found) (w : List ℕ) (y : List Float) (o g : List ℕ) : Type 0 where
  found-fine : is_fine f ≡ true
  profile : in_profile (settings_of w) ≡ true
  end : is_ended (standing_of (num w 9)) ≡ true
  all-fine : calm_along y (num w 0) ≡ true
  order-room : num w 0 ≤ length o
  gaps-room : num w 0 ≤ length g

-- the frames of an answer, and whether it has any
abbrev frames_in : Handed → ℕ
frames_in (Ok n) = n
frames_in (Err b) = 0

abbrev is_done : Handed → Bool
is_done (Ok n) = true
is_done (Err b) = false

refuses : {A : Type 0} {a : Handed} {n : ℕ} → is_done a ≡ false → a ≡ Ok n → A
refuses r e = absurd (true≢false (sym (ap is_done e) ∙ r))

done-is : (a : Handed) → is_done a ≡ true → a ≡ Ok (frames_in a)
done-is (Ok n) e = refl
done-is (Err b) e = absurd (true≢false (sym e))

not_done : (a : Handed) → ((n : ℕ) → a ≡ Ok n → ⊥) → is_done a ≡ false
not_done a k = by_bool (is_done a ≡ false) (is_done a) (λ t. absurd (k (frames_in a) (done-is a t))) (λ t. t)

module _ (f : Found) (w : List ℕ) (y : List Float) (o g : List ℕ) (n : ℕ) where
  through : (hand_tested f w y o g).answer ≡ Ok n → Through f w y o g
  unfolding hand_tested
  through e = by_bool (Through f w y o g) (is_fine f) (λ a0. let a = found-none f a0 in by_bool (Through f w y o g) (in_profile (settings_of w)) (λ b. by_bool (Through f w y o g)
      (is_ended (standing_of (num w 9))) (λ c. by_bool (Through f w y o g) (calm_along y (num w 0)) (λ d. by_bool (Through f w y o g)
      (ltb (length o) (num w 0) || ltb (length g) (num w 0))
      (λ s. refuses refl (rw (a, b, c, d, s) at e))
      (λ s. record {
        found-fine = a0;
        profile = b;
        end = c;
        all-fine = d;
        order-room = ltb-false (length o) (num w 0)
            (or_left (ltb (length o) (num w 0)) (ltb (length g) (num w 0)) s);
        gaps-room = ltb-false (length g) (num w 0)
            (or_right (ltb (length o) (num w 0)) (ltb (length g) (num w 0)) s);
      }))
      (λ d. refuses refl (rw (a, b, c, d) at e)))
      (λ c. refuses refl (rw (a, b, c) at e)))
      (λ b. refuses refl (rw (a, b) at e)))
      (λ a. refuses refl (rw (found-some f a).1 at e))

module _ (f : Found) (w : List ℕ) (y : List Float) (o g : List ℕ) where
  -- refused, nothing is changed
  keeps : is_done (hand_tested f w y o g).answer ≡ false → hand_tested f w y o g ≡ handing (hand_tested f w y o g).answer o g
  unfolding hand_tested along_line
  keeps e = by_bool Kept (is_fine f) (λ a0. let a = found-none f a0 in by_bool Kept (in_profile (settings_of w)) (λ b. by_bool Kept (is_ended (standing_of (num w 9))) (λ c. by_bool Kept
      (calm_along y (num w 0)) (λ d. by_bool Kept (ltb (length o) (num w 0) || ltb (length g) (num w 0))
      (λ s. rw (a, b, c, d, s))
      (λ s. absurd (true≢false (rw (a, b, c, d, s) at e))))
      (λ d. rw (a, b, c, d)))
      (λ c. rw (a, b, c)))
      (λ b. rw (a, b)))
      (λ a. rw (found-some f a).1)
    where
      Kept : Type 0
      Kept = hand_tested f w y o g ≡ handing (hand_tested f w y o g).answer o g

  -- done, it is the line
  line-is : Through f w y o g → hand_tested f w y o g ≡ along_line y (num w 0) o g
  line-is v = sym (handed-along f w y o g v.found-fine v.profile v.end v.all-fine v.order-room v.gaps-room)

module _ (w : List ℕ) (m : Memory) (o g : List ℕ) where
  abbrev left : Handing
  left = handed_out w m o g

  line-along : Through (hand_fault w m) w m.positions o g → HandedAlong w m o g (num w 0) (along_line m.positions (num w 0) o g)
  unfolding along_line
  line-along v =
      let y = m.positions in
      let n = num w 0 in
      let a = all-calm y n v.all-fine in
      let w' = strip_order y n o in
      let r = order-by-rule y n a o v.order-room in
      record {
        entry-fine = v.found-fine;
        all-frames = refl;
        in-profile = v.profile;
        ended = v.end;
        calm-positions = a;
        order-room = v.order-room;
        gaps-room = v.gaps-room;
        rule = r;
        first-gap = λ h. gap_at y w' n g 0 h ∙ no_gap y w';
        each-gap = λ q s h. gap_at y w' n g q h ∙ later-gap y w' q s;
        no-gap-below = λ q h. rw (gap_at y w' n g q h) (gap-not-below y n a w' r q h);
        order-length = order-size y n a o v.order-room;
        gaps-length = gaps-size y w' n g v.gaps-room;
        order-tail = order-tail-kept y n o;
        gaps-tail = gaps-tail-kept y w' n g;
      }

  -- n frames are told: they are all, by the rule, with their gaps, and the tails are kept
  pub handed-all : (n : ℕ) → left.answer ≡ Ok n → HandedAlong w m o g n left
  unfolding handed_out along_line
  handed-all n e =
      let y = m.positions in
      let v = through (hand_fault w m) w y o g n e in
      let is : left ≡ along_line y (num w 0) o g = line-is (hand_fault w m) w y o g v in
      let many : num w 0 ≡ n = ap (λ (x : Handing). frames_in x.answer) (sym is) ∙ ap frames_in e in
      subst (λ (x : ℕ). HandedAlong w m o g x left) many (subst (HandedAlong w m o g (num w 0)) (sym is) (line-along v))

  -- refused, order and gaps are as they were
  pub refused-keeps : ((n : ℕ) → left.answer ≡ Ok n → ⊥) → left ≡ handing left.answer o g
  unfolding handed_out
  refused-keeps k = keeps (hand_fault w m) w m.positions o g (not_done left.answer k)

  -- every ended run in the profile is handed out: whoever prepared, read or thinned it
  pub handed-where : is_fine (hand_fault w m) ≡ true → in_profile (settings_of w) ≡ true → is_ended (standing_of (num w 9)) ≡ true →
      calm_along m.positions (num w 0) ≡ true → num w 0 ≤ length o → num w 0 ≤ length g → left.answer ≡ Ok (num w 0)
  unfolding handed_out along_line
  handed-where a b c d h k = ap (λ (x : Handing). x.answer)
      (line-is (hand_fault w m) w m.positions o g (record { found-fine = a; profile = b; end = c; all-fine = d; order-room = h; gaps-room = k }))
