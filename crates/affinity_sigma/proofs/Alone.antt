-- The shares depend on the first n distances and the perplexity alone: what stood in the area does not matter, and its tail is kept. Assumes nothing.
use mathlib.Core.Path.{◌≡◌, refl, sym, ap, subst, ◌∙◌}
use mathlib.Core.Logic.{⊎_elim}
use mathlib.Core.List.{List, ◌++◌}
use mathlib.Core.Bool.{Bool, true, false, cond}
use Prim.Native.Nat.{ℕ, zero, suc, ◌<◌, ◌≤◌, ◌-◌}
use native.Mathlib.Omega.{arith}
use native.Mathlib.Nat.{le_of_eq}
use lib.IntN.{pos}
use lib.ListN.{length, drop, set, take, replicate, length-append, length-replicate, take-append-drop}
use lib.Seq.{ext_get_or, length-take-le}
use lib.Ieee.{Float, nan, binary64, of_int, add, div, lt}
use Rattle.laws.specs.Loops.{loop, until}
use Rattle.laws.specs.Area.{at, zero64, one64}
use Rattle.laws.proofs.Bools.{two}
use Rattle.laws.proofs.Loops.{loop-same}
use Rattle.laws.proofs.Untils.{until_end}
use Rattle.laws.proofs.Written.{written_at}
use Rattle.laws.proofs.Places.{changed-size, changed-past, summed-past}
use Rattle.areas.specs.Filled.{filled}
use Rattle.areas.proofs.Front.{filled-loop, filled-size}
use Rattle.affinity_sigma.specs.declared.Bounds.{Bounds}
use Rattle.affinity_sigma.specs.Sigma.{weight_of, weigh_step, weighed, weight_sum, smallest, divide_step, shared_by, row_of, term_of, excess, close, narrowed}
use Rattle.affinity_sigma.specs.Sigma.{Search, searched, is_met, round_of, open_bounds, sigma_shares, shares_of, most_rounds}

pub until-on : {A : Type 0} (p : A → Bool) (f : A → A) (k : ℕ) (x : A) → p x ≡ false → until p f (suc k) x ≡ until p f k (f x)
unfolding until
until-on p f k x e = rw (e, until)

module _ (ds : List Float) (n : ℕ) where
  -- ---- the row of a sigma

  module _ (sigma : Float) where
    abbrev weights : ℕ → Float
    weights j = weight_of sigma (at ds j)

    pub weighed-size : (l : List Float) → length (weighed ds n sigma l) ≡ length l
    weighed-size l = changed-size nan (λ j v. weights j) n l

    -- every weight is written, whatever stood there
    pub weighed-alone : (l m : List Float) → length l ≡ n → length m ≡ n → weighed ds n sigma l ≡ weighed ds n sigma m
    weighed-alone l m e f =
        ext_get_or nan (weighed ds n sigma l) (weighed ds n sigma m) (weighed-size l ∙ e ∙ sym f ∙ sym (weighed-size m))
        (λ j h. let h' : j < n = subst (λ (k : ℕ). j < k) (weighed-size l ∙ e) h in
        written_at weights nan n l (le_of_eq (sym e)) j h' ∙ sym (written_at weights nan n m (le_of_eq (sym f)) j h'))

  abbrev equal : Float
  equal = div binary64 one64 (of_int binary64 (pos n))

  shared-size : (s : Float) (l : List Float) → n ≤ length l → length (shared_by s n l) ≡ length l
  unfolding shared_by
  shared-size s l h = go (lt s smallest)
    where
      go : (b : Bool) → length (cond b (filled equal n l) (loop (divide_step s) n 0 l)) ≡ length l
      go true = filled-size equal n l h
      go false = changed-size nan (λ j v. div binary64 v s) n l

  shared-past : (s : Float) (l t : List Float) → n ≤ length l → shared_by s n (l ++ t) ≡ shared_by s n l ++ t
  unfolding shared_by
  shared-past s l t h = go (lt s smallest)
    where
      go : (b : Bool) → cond b (filled equal n (l ++ t)) (loop (divide_step s) n 0 (l ++ t)) ≡ cond b (filled equal n l) (loop (divide_step s) n 0 l) ++ t
      go true = filled-loop equal n (l ++ t) (omega (arith, h, length-append l t)) ∙ changed-past nan (λ j v. equal) n l t h ∙ ap (λ (x : List Float). x ++ t) (sym (filled-loop equal n l h))
      go false = changed-past nan (λ j v. div binary64 v s) n l t h

  pub total-past : (l t : List Float) → n ≤ length l → weight_sum (l ++ t) n ≡ weight_sum l n
  total-past l t h = summed-past nan (λ s v. add binary64 s v) n l t zero64 h

  module _ (sigma : Float) where
    pub row-size : (l : List Float) → n ≤ length l → length (row_of ds n sigma l) ≡ length l
    unfolding row_of
    row-size l h = shared-size (weight_sum (weighed ds n sigma l) n) (weighed ds n sigma l) (rw (weighed-size sigma l) h) ∙ weighed-size sigma l

    row-alone : (l m : List Float) → length l ≡ n → length m ≡ n → row_of ds n sigma l ≡ row_of ds n sigma m
    unfolding row_of
    row-alone l m e f = ap (λ (w : List Float). shared_by (weight_sum w n) n w) (weighed-alone sigma l m e f)

    row-past : (l t : List Float) → length l ≡ n → row_of ds n sigma (l ++ t) ≡ row_of ds n sigma l ++ t
    unfolding row_of
    row-past l t e =
        let w = weighed ds n sigma l in
        let h : n ≤ length w = le_of_eq (sym (weighed-size sigma l ∙ e)) in
        ap (λ (x : List Float). shared_by (weight_sum x n) n x) (changed-past nan (λ j v. weights sigma j) n l t (le_of_eq (sym e)))
        ∙ ap (λ (s : Float). shared_by s n (w ++ t)) (total-past w t h)
        ∙ shared-past (weight_sum w n) w t h

  -- ---- the rounds

  module _ (perplexity : Float) where
    excess-past : (l t : List Float) → n ≤ length l → excess (l ++ t) n perplexity ≡ excess l n perplexity
    unfolding excess
    excess-past l t h = rw (summed-past nan (λ s v. add binary64 s (term_of v)) n l t zero64 h)

    -- a search in an area that goes on with t
    abbrev past : List Float → Search → Search
    past t s = searched (s.row ++ t) s.bounds s.met

    pub round-size : (s : Search) → n ≤ length s.row → length (round_of ds n perplexity s).row ≡ length s.row
    unfolding round_of
    round-size s h =
        let r = row_of ds n s.bounds.sigma s.row in
        go (excess r n perplexity) (close (excess r n perplexity)) ∙ row-size s.bounds.sigma s.row h
      where
        go : (d : Float) (b : Bool) → length
            (cond b (searched (row_of ds n s.bounds.sigma s.row) s.bounds true)
            (searched (row_of ds n s.bounds.sigma s.row) (narrowed s.bounds d) false)).row ≡ length (row_of ds n s.bounds.sigma s.row)
        go d true = refl
        go d false = refl

    pub round-past : (t : List Float) (s : Search) → length s.row ≡ n → round_of ds n perplexity (past t s) ≡ past t (round_of ds n perplexity s)
    unfolding round_of
    round-past t s e =
        let r = row_of ds n s.bounds.sigma s.row in
        rw (row-past s.bounds.sigma s.row t e, excess-past r t (le_of_eq (sym (row-size s.bounds.sigma s.row (le_of_eq (sym e)) ∙ e))))
        (go r (excess r n perplexity) (close (excess r n perplexity)))
      where
        go : (r : List Float) (d : Float) (b : Bool) → cond b (searched (r ++ t) s.bounds true) (searched (r ++ t) (narrowed s.bounds d) false) ≡ past t
            (cond b (searched r s.bounds true) (searched r (narrowed s.bounds d) false))
        go r d true = refl
        go r d false = refl

    abbrev rounds : ℕ → Search → Search
    rounds k s = until is_met (round_of ds n perplexity) k s

    rounds-on : (k : ℕ) (s : Search) → s.met ≡ false → rounds (suc k) s ≡ rounds k (round_of ds n perplexity s)
    rounds-on k s e = until-on is_met (round_of ds n perplexity) k s e

    rounds-past : (t : List Float) (k : ℕ) (s : Search) → length s.row ≡ n → rounds k (past t s) ≡ past t (rounds k s)
    unfolding until
    rounds-past t zero s e = refl
    rounds-past t (suc k) s e = ⊎_elim
        (λ m. until_end is_met (round_of ds n perplexity) (suc k) (past t s) m ∙ ap (past t) (sym (until_end is_met (round_of ds n perplexity) (suc k) s m)))
        (λ m.
        rounds-on k (past t s) m
        ∙ ap (rounds k) (round-past t s e)
        ∙ rounds-past t k (round_of ds n perplexity s) (round-size s (le_of_eq (sym e)) ∙ e)
        ∙ ap (past t) (sym (rounds-on k s m)))
        (two s.met)

    pub round-alone : (l m : List Float) (b : Bounds) → length l ≡ n → length m ≡ n → round_of ds n perplexity (searched l b false) ≡ round_of ds n perplexity (searched m b false)
    unfolding round_of
    round-alone l m b e f = rw (row-alone b.sigma l m e f)

    rounds-alone : (l m : List Float) → length l ≡ n → length m ≡ n → rounds most_rounds (searched l open_bounds false) ≡ rounds most_rounds (searched m open_bounds false)
    rounds-alone l m e f = rounds-on (most_rounds - 1) (searched l open_bounds false) refl ∙ ap (rounds (most_rounds - 1)) (round-alone l m open_bounds e f) ∙
        sym (rounds-on (most_rounds - 1) (searched m open_bounds false) refl)

    -- ---- the whole area

    pub shares_whole : (p : List Float) → n ≤ length p → sigma_shares ds n perplexity p ≡ shares_of ds n perplexity ++ drop n p
    unfolding sigma_shares
    shares_whole p h =
        let l = take n p in
        let e : length l ≡ n = length-take-le n p h in
        ap (λ (s : Search). s.row)
        (ap (λ (q : List Float). rounds most_rounds (searched q open_bounds false)) (sym (take-append-drop n p))
        ∙ rounds-past (drop n p) most_rounds (searched l open_bounds false) e
        ∙ ap (past (drop n p)) (rounds-alone l (replicate n zero64) e (length-replicate n zero64)))

-- ---- of the distances only the first n are read

module _ (ds es : List Float) (n : ℕ) (same : (j : ℕ) → j < n → at ds j ≡ at es j) where
  row_read : (sigma : Float) (l : List Float) → row_of ds n sigma l ≡ row_of es n sigma l
  unfolding row_of
  row_read sigma l =
      ap (λ (w : List Float). shared_by (weight_sum w n) n w)
      (loop-same (weigh_step ds sigma) (weigh_step es sigma) n 0 l (λ j q a b. ap (λ (v : Float). set q j (weight_of sigma v)) (same j (omega arith))))

  module _ (perplexity : Float) where
    round-read : (s : Search) → round_of ds n perplexity s ≡ round_of es n perplexity s
    unfolding round_of
    round-read s = rw (row_read s.bounds.sigma s.row)

    rounds-read : (k : ℕ) (s : Search) → rounds ds n perplexity k s ≡ rounds es n perplexity k s
    unfolding until
    rounds-read zero s = refl
    rounds-read (suc k) s = ⊎_elim
        (λ m. until_end is_met (round_of ds n perplexity) (suc k) s m ∙ sym (until_end is_met (round_of es n perplexity) (suc k) s m))
        (λ m.
        rounds-on ds n perplexity k s m
        ∙ ap (rounds ds n perplexity k) (round-read s)
        ∙ rounds-read k (round_of es n perplexity s)
        ∙ sym (rounds-on es n perplexity k s m))
        (two s.met)

    pub shares-read : (p : List Float) → sigma_shares ds n perplexity p ≡ sigma_shares es n perplexity p
    unfolding sigma_shares
    shares-read p = ap (λ (s : Search). s.row) (rounds-read most_rounds (searched p open_bounds false))
