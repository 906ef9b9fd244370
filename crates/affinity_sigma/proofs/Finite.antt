-- Every share of a row is finite and not negative, whatever the perplexity is. The premise is that the row has 1 to 4096 distances, each finite and not negative; nothing else is assumed.
use mathlib.Core.Path.{◌≡◌, refl, sym, ap, subst, ◌∙◌}
use mathlib.Core.Logic.{⊎_elim}
use mathlib.Core.List.{List}
use mathlib.Core.Bool.{Bool, true, false, cond, true≢false}
use Prim.Native.Nat.{ℕ, zero, suc, ◌+◌, ◌*◌, ◌^◌, ◌<◌, ◌≤◌, ◌-◌}
use native.Mathlib.Omega.{arith}
use native.Mathlib.Nat.{le_trans, le_of_eq, zero-add, zero-mul}
use lib.IntN.{ℤ, pos, negsuc}
use lib.Dec.{eqb, lit<, lit≤}
use lib.ListN.{length}
use lib.Ieee.{Float, nan, inf, fin, binary64, up, down, round, neg, add, mul, div, lt, eq, of_int, of_bits}
use lib.Ieee.Fits.{down_pos}
use borrow.Author.Tests.{ltb-false, ne_eqb}
use Rattle.laws.specs.Domain.{most_frames}
use Rattle.laws.specs.Loops.{loop, until}
use Rattle.laws.specs.Area.{at, zero64, one64, two64}
use Rattle.laws.proofs.Bools.{two}
use Rattle.laws.proofs.Loops.{loop-keeps}
use Rattle.laws.proofs.Untils.{until_end}
use Rattle.laws.proofs.Written.{written_at}
use Rattle.laws.proofs.Changed.{changed-at}
use Rattle.areas.specs.Filled.{filled}
use Rattle.areas.proofs.Front.{filled-loop}
use Rattle.elementary.specs.Exp.{exp_of}
use Rattle.elementary.specs.Limits.{up_to_whole, not_negative}
use Rattle.elementary.proofs.Sizes.{sign_plus, Signed, Least, Sized, held_whole, signed_round, sized-signed, sized-round, zero-whole, sized-next, sized-add}
use Rattle.elementary.proofs.Sizes.{sized-div, whole-sized, sized-whole, whole-not-negative, whole-signed, whole-least, one-sized, two_is, plain-add}
use Rattle.elementary.proofs.Falling.{exp-falling}
use Rattle.affinity_sigma.specs.declared.Bounds.{Bounds}
use Rattle.affinity_sigma.specs.Sigma.{weight_of, weighed, weight_step, weight_sum, smallest, divide_step, shared_by, row_of, excess, close, narrowed, Search}
use Rattle.affinity_sigma.specs.Sigma.{searched, is_met, round_of, open_bounds, sigma_shares, most_rounds}
use Rattle.affinity_sigma.proofs.Alone.{until-on, weighed-size, row-size}

-- ---- one weight

times-some : (z : Float) (m : ℕ) (e : ℤ) → sign_plus z → sign_plus (mul binary64 z (fin false (suc m) e))
unfolding mul
times-some (inf s) m e p = rw (p, ne_eqb (suc m) 0 (λ q. omega arith)) refl
times-some (fin s k g) m e p = rw p (signed_round binary64 false (k * up g * (suc m * up e)) (down g * down e))
times-some nan m e p = elim p [ ]

times_none : (z : Float) (e : ℤ) → Sized false 0 1 z → sign_plus (mul binary64 z (fin false 0 e))
unfolding mul
times_none (fin s k g) e p = rw p.0 (signed_round binary64 false (k * up g * (0 * up e)) (down g * down e))
times_none nan e p = elim p [ ]
times_none (inf _) e p = elim p [ ]

-- (2·sigma)·sigma: the zero and the infinite sigma never meet
spread-of : (sigma : Float) → sign_plus sigma → sign_plus (mul binary64 (mul binary64 (fin false 1 (pos 1)) sigma) sigma)
unfolding mul
spread-of (inf s) p = rw p refl
spread-of (fin true m e) p = absurd (true≢false p)
spread-of (fin false zero e) p = times_none (round binary64 false (1 * 2 ^ 1 * (0 * up e)) (1 * down e)) e
    (sized-round false (1 * 2 ^ 1 * (0 * up e)) (1 * down e) 0 1 (omega (arith, down_pos e)) (lit< tt) (held_whole 0 (lit≤ tt)) (rw (zero-mul (up e)) (omega arith)))
spread-of (fin false (suc m) e) p = times-some (round binary64 false (1 * 2 ^ 1 * (suc m * up e)) (1 * down e)) m e (signed_round binary64 false (1 * 2 ^ 1 * (suc m * up e)) (1 * down e))
spread-of nan p = elim p [ ]

spread : (sigma : Float) → sign_plus sigma → sign_plus (mul binary64 (mul binary64 two64 sigma) sigma)
spread sigma p = subst (λ (t : Float). sign_plus (mul binary64 (mul binary64 t sigma) sigma)) (sym two_is) (spread-of sigma p)

-- a distance above 0 with its sign turned, divided by what is not negative
falls : (m : ℕ) (e : ℤ) (v : Float) → sign_plus v → Signed true (div binary64 (fin true (suc m) e) v)
unfolding div
falls m e (inf s) p = rw p refl
falls m e (fin s n g) p = rw (p, ne_eqb (suc m) 0 (λ q. omega arith)) (go (eqb n 0))
  where
    go : (b : Bool) → Signed true (cond b (inf true) (round binary64 true (suc m * up e * down g) (n * up g * down e)))
    go true = refl
    go false = signed_round binary64 true (suc m * up e * down g) (n * up g * down e)
falls m e nan p = elim p [ ]

zero-equal : (e : ℤ) → eq (fin false 0 e) zero64 ≡ true
unfolding eq of_bits
zero-equal e = rw (zero-mul (up e), zero-mul (down e))

weight-small : (sigma d : Float) → sign_plus sigma → not_negative d → up_to_whole (weight_of sigma d) 14
unfolding weight_of neg
weight-small sigma (fin true m e) p q = absurd (true≢false q)
weight-small sigma (fin false zero e) p q = rw (zero-equal e) (zero-whole 14)
weight-small sigma (fin false (suc m) e) p q = go (eq (fin false (suc m) e) zero64)
  where
    go : (b : Bool) → up_to_whole (cond b zero64 (exp_of (div binary64 (fin true (suc m) e) (mul binary64 (mul binary64 two64 sigma) sigma)))) 14
    go true = zero-whole 14
    go false = exp-falling (div binary64 (fin true (suc m) e) (mul binary64 (mul binary64 two64 sigma) sigma)) (falls m e (mul binary64 (mul binary64 two64 sigma) sigma) (spread sigma p))
weight-small sigma nan p q = elim q [ ]
weight-small sigma (inf _) p q = elim q [ ]

-- ---- the bounds of the search are never NaN and never negative

record PlainBounds (b : Bounds) : Type 0 where
  low : sign_plus b.low
  high : sign_plus b.high
  sigma : sign_plus b.sigma

half_of : (z : Float) → sign_plus z → sign_plus (div binary64 z (fin false 1 (pos 1)))
unfolding div
half_of (inf s) p = rw p refl
half_of (fin s m e) p = rw p (signed_round binary64 false (m * up e * 1) (1 * 2 ^ 1 * down e))
half_of nan p = elim p [ ]

middle : (x y : Float) → sign_plus x → sign_plus y → sign_plus (div binary64 (add binary64 x y) two64)
middle x y p q = subst (λ (t : Float). sign_plus (div binary64 (add binary64 x y) t)) (sym two_is) (half_of (add binary64 x y) (plain-add x y p q))

double : (z : Float) → sign_plus z → sign_plus (mul binary64 z two64)
double z p = subst (λ (t : Float). sign_plus (mul binary64 z t)) (sym two_is) (times-some z 0 (pos 1) p)

next-plain : (b : Bounds) (diff : Float) → PlainBounds b → PlainBounds (narrowed b diff)
unfolding narrowed
next-plain b diff p = go (lt zero64 diff)
  where
    higher : (c : Bool) → sign_plus (cond c (mul binary64 b.sigma two64) (div binary64 (add binary64 b.sigma b.high) two64))
    higher true = double b.sigma p.sigma
    higher false = middle b.sigma b.high p.sigma p.high

    go : (c : Bool) → PlainBounds (cond c (record { low = b.low; high = b.sigma; sigma = div binary64 (add binary64 b.sigma b.low) two64 })
        (record {
          low = b.sigma;
          high = b.high;
          sigma = cond (eq b.high (inf false)) (mul binary64 b.sigma two64)
              (div binary64 (add binary64 b.sigma b.high) two64);
        }))
    go true = record { low = p.low; high = p.sigma; sigma = middle b.sigma b.low p.sigma p.low }
    go false = record { low = p.sigma; high = p.high; sigma = higher (eq b.high (inf false)) }

wide-plain : PlainBounds open_bounds
unfolding of_bits
wide-plain = record { low = refl; high = refl; sigma = refl }

-- ---- a row of distances

-- 1e-8 is NS / 2 ^ 78
abbrev NS : ℕ
NS = 0xabcc77118461d

small_is : smallest ≡ fin false NS (negsuc 77)
unfolding of_bits
small_is = refl

-- a sum that is not below 1e-8
enough-of : (s : Float) (k : ℕ) → Sized false k 1 s → lt s (fin false NS (negsuc 77)) ≡ false → Least NS (2 ^ 78) s
unfolding lt
enough-of (fin true m e) k p h = absurd (true≢false p.0)
enough-of (fin false m e) k p h = ltb-false (m * up e * 2 ^ 78) (NS * 1 * down e) h
enough-of nan k p h = elim p [ ]
enough-of (inf _) k p h = elim p [ ]

enough : (s : Float) (k : ℕ) → Sized false k 1 s → lt s smallest ≡ false → Least NS (2 ^ 78) s
enough s k p h = enough-of s k p (ap (lt s) (sym small_is) ∙ h)

-- what comes out: 14 / 1e-8
abbrev pub most_share : ℕ
most_share = 1400000000

module _ (ds : List Float) (n : ℕ) (some : 0 < n) (few : n ≤ most_frames) (far : (j : ℕ) → j < n → not_negative (at ds j)) where
  abbrev Bounded : List Float → Type 0
  Bounded l = (j : ℕ) → j < n → up_to_whole (at l j) most_share

  equal-small : up_to_whole (div binary64 one64 (of_int binary64 (pos n))) most_share
  equal-small =
      let q = div binary64 one64 (of_int binary64 (pos n)) in
      whole-sized most_share q (sized-next false 1 most_share 1 q (lit≤ tt)
      (sized-div false false 1 1 1 1 1 1 one64 (of_int binary64 (pos n)) (lit< tt) (lit< tt) (lit< tt) (held_whole 1 (lit≤ tt)) (lit≤ tt) one-sized
      (whole-signed n) (whole-least n some (le_trans few (lit≤ tt)))))

  module _ (sigma : Float) (up-sigma : sign_plus sigma) (l : List Float) (room : n ≤ length l) where
    abbrev w : List Float
    w = weighed ds n sigma l

    roomy : n ≤ length w
    roomy = le_trans room (le_of_eq (sym (weighed-size ds n sigma l)))

    weighed-small : (j : ℕ) → j < n → up_to_whole (at w j) 14
    weighed-small j h = subst (λ (v : Float). up_to_whole v 14) (sym (written_at (λ j. weight_of sigma (at ds j)) nan n l room j h)) (weight-small sigma (at ds j) up-sigma (far j h))

    -- the sum of k weights is at most 14·k
    total-small : Sized false (14 * n) 1 (weight_sum w n)
    total-small = subst (λ (k : ℕ). Sized false (14 * k) 1 (weight_sum w n)) (zero-add n)
        (loop-keeps (λ k s. Sized false (14 * k) 1 s) (weight_step w) n 0 zero64
        (λ j s h p. subst (λ (k : ℕ). Sized false k 1 (weight_step w j s)) (one_more j)
        (sized-add (14 * j) 14 1 s (at w j) (lit< tt) (held_whole (14 * j + 14) (omega (arith, h, few))) p (sized-whole 14 (at w j) (weighed-small j (omega (arith, h))))))
        (sized-whole 0 zero64 (zero-whole 0)))
      where
        one_more : (j : ℕ) → 14 * j + 14 ≡ 14 * (j + 1)
        one_more j = omega arith

    row_small : Bounded (row_of ds n sigma l)
    unfolding row_of shared_by
    row_small j h = go (lt (weight_sum w n) smallest) refl
      where
        go : (b : Bool) → lt (weight_sum w n) smallest ≡ b → up_to_whole
            (at (cond b (filled (div binary64 one64 (of_int binary64 (pos n))) n w) (loop (divide_step (weight_sum w n)) n 0 w)) j) most_share
        go true e = subst (λ (v : Float). up_to_whole v most_share)
            (sym (ap (λ (m : List Float). at m j) (filled-loop (div binary64 one64 (of_int binary64 (pos n))) n w roomy) ∙
            written_at (λ j. div binary64 one64 (of_int binary64 (pos n))) nan n w roomy j h)) equal-small
        go false e = subst (λ (v : Float). up_to_whole v most_share) (sym (changed-at nan (λ j v. div binary64 v (weight_sum w n)) n w roomy j h))
            (whole-sized most_share (div binary64 (at w j) (weight_sum w n))
            (sized-div false false 14 1 NS (2 ^ 78) most_share 1 (at w j) (weight_sum w n) (lit< tt) (lit< tt) (lit< tt) (held_whole most_share (lit≤ tt)) (lit≤ tt)
            (sized-whole 14 (at w j) (weighed-small j h)) (sized-signed false (14 * n) 1 (weight_sum w n) total-small) (enough (weight_sum w n) (14 * n) total-small e)))

  -- ---- the rounds

  module _ (perplexity : Float) where
    -- what every round keeps
    record Good (s : Search) : Type 0 where
      bounds : PlainBounds s.bounds
      room : n ≤ length s.row

    -- and what the first one makes
    record Fair (s : Search) : Type 0 where
      good : Good s
      shares : Bounded s.row

    round-fair : (s : Search) → Good s → Fair (round_of ds n perplexity s)
    unfolding round_of
    round-fair s g = go (excess row n perplexity) (close (excess row n perplexity))
      where
        row : List Float
        row = row_of ds n s.bounds.sigma s.row

        fair : (b : Bounds) (m : Bool) → PlainBounds b → Fair (searched row b m)
        fair b m p = record {
          good = record { bounds = p; room = le_trans g.room (le_of_eq (sym (row-size ds n s.bounds.sigma s.row g.room))) };
          shares = row_small s.bounds.sigma g.bounds.sigma s.row g.room;
        }

        go : (d : Float) (b : Bool) → Fair (cond b (searched row s.bounds true) (searched row (narrowed s.bounds d) false))
        go d true = fair s.bounds true g.bounds
        go d false = fair (narrowed s.bounds d) false (next-plain s.bounds d g.bounds)

    rounds-fair : (k : ℕ) (s : Search) → Fair s → Fair (until is_met (round_of ds n perplexity) k s)
    unfolding until
    rounds-fair zero s f = f
    rounds-fair (suc k) s f = ⊎_elim
        (λ m. subst Fair (sym (until_end is_met (round_of ds n perplexity) (suc k) s m)) f)
        (λ m. subst Fair (sym (until-on is_met (round_of ds n perplexity) k s m)) (rounds-fair k (round_of ds n perplexity s) (round-fair s f.good)))
        (two s.met)

    module _ (p : List Float) (room : n ≤ length p) where
      start : Good (searched p open_bounds false)
      start = record { bounds = wide-plain; room = room }

      -- each of the first n shares is finite, not negative, and at most 14 / 1e-8: a coarse bound
      pub share-bounded : (j : ℕ) → j < n → up_to_whole (at (sigma_shares ds n perplexity p) j) most_share
      unfolding sigma_shares
      share-bounded = subst (λ (s : Search). Bounded s.row)
          (sym (until-on is_met (round_of ds n perplexity) (most_rounds - 1) (searched p open_bounds false) refl))
          (rounds-fair (most_rounds - 1) (round_of ds n perplexity (searched p open_bounds false)) (round-fair (searched p open_bounds false) start)).shares

      pub share-not-negative : (j : ℕ) → j < n → not_negative (at (sigma_shares ds n perplexity p) j)
      share-not-negative j h = whole-not-negative most_share (at (sigma_shares ds n perplexity p) j) (share-bounded j h)
