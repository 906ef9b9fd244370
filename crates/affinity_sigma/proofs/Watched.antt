-- The search watched: its row is that of the search; its last sum goes by the distances and the perplexity alone, where the area has room; a blind search ends with equal shares. Assumes nothing.
use mathlib.Core.Path.{◌≡◌, refl, sym, ap, subst, ◌∙◌}
use mathlib.Core.Logic.{⊎_elim}
use mathlib.Core.List.{List, ◌++◌}
use mathlib.Core.Bool.{Bool, true, false, cond}
use Prim.Native.Nat.{ℕ, zero, suc, ◌<◌, ◌≤◌, ◌-◌}
use native.Mathlib.Nat.{le_of_eq}
use lib.IntN.{pos}
use lib.ListN.{length, drop, take, replicate, length-replicate, take-append-drop}
use lib.Seq.{length-take-le}
use lib.Ieee.{Float, nan, binary64, of_int, div, lt}
use Rattle.laws.specs.Loops.{until}
use Rattle.laws.specs.Area.{at, zero64, one64}
use Rattle.laws.proofs.Bools.{two}
use Rattle.laws.proofs.Untils.{until_end}
use Rattle.laws.proofs.Written.{written_at}
use Rattle.laws.proofs.Places.{changed-past}
use Rattle.areas.proofs.Front.{filled-loop}
use Rattle.affinity_sigma.specs.Sigma.{weight_of, weighed, weight_sum, smallest, shared_by, row_of, excess, close, narrowed, Search, searched, is_met, round_of, open_bounds, most_rounds}
use Rattle.affinity_sigma.specs.Sigma.{sigma_shares, shares_of, Watched, watched, watched_met, watched_round, watched_search, last_sum, blind_search}
use Rattle.affinity_sigma.proofs.Alone.{until-on, weighed-size, weighed-alone, total-past, round-size, round-past, round-alone}

module _ (ds : List Float) (n : ℕ) (perplexity : Float) where
  abbrev watches : ℕ → Watched → Watched
  watches k w = until watched_met (watched_round ds n perplexity) k w

  watches-on : (k : ℕ) (w : Watched) → w.search.met ≡ false → watches (suc k) w ≡ watches k (watched_round ds n perplexity w)
  watches-on k w e = until-on watched_met (watched_round ds n perplexity) k w e

  watches-end : (k : ℕ) (w : Watched) → w.search.met ≡ true → watches k w ≡ w
  watches-end k w e = until_end watched_met (watched_round ds n perplexity) k w e

  abbrev from : List Float → Watched
  from p = watched (searched p open_bounds false) zero64

  -- ---- the search that is watched is the search

  round-watched : (w : Watched) → (watched_round ds n perplexity w).search ≡ round_of ds n perplexity w.search
  unfolding watched_round
  round-watched w = refl

  watches-search : (k : ℕ) (w : Watched) → (watches k w).search ≡ until is_met (round_of ds n perplexity) k w.search
  unfolding until
  watches-search zero w = refl
  watches-search (suc k) w = ⊎_elim
      (λ m. ap (λ (x : Watched). x.search) (watches-end (suc k) w m) ∙ sym (until_end is_met (round_of ds n perplexity) (suc k) w.search m))
      (λ m.
      ap (λ (x : Watched). x.search) (watches-on k w m)
      ∙ watches-search k (watched_round ds n perplexity w)
      ∙ ap (until is_met (round_of ds n perplexity) k) (round-watched w)
      ∙ sym (until-on is_met (round_of ds n perplexity) k w.search m))
      (two w.search.met)

  pub watched-row : (p : List Float) → (watched_search ds n perplexity p).search.row ≡ sigma_shares ds n perplexity p
  unfolding watched_search sigma_shares
  watched-row p = ap (λ (s : Search). s.row) (watches-search most_rounds (from p))

  -- ---- what stood in the area does not matter

  abbrev watched_past : List Float → Watched → Watched
  watched_past t w = watched (searched (w.search.row ++ t) w.search.bounds w.search.met) w.sum

  sum_past : (sigma : Float) (l t : List Float) → length l ≡ n → weight_sum (weighed ds n sigma (l ++ t)) n ≡ weight_sum (weighed ds n sigma l) n
  sum_past sigma l t e =
      ap (λ (x : List Float). weight_sum x n) (changed-past nan (λ j v. weight_of sigma (at ds j)) n l t (le_of_eq (sym e)))
      ∙ total-past ds n (weighed ds n sigma l) t (le_of_eq (sym (weighed-size ds n sigma l ∙ e)))

  watched-past : (t : List Float) (w : Watched) → length w.search.row ≡ n → watched_round ds n perplexity (watched_past t w) ≡ watched_past t (watched_round ds n perplexity w)
  unfolding watched_round
  watched-past t w e = rw (round-past ds n perplexity t w.search e, sum_past w.search.bounds.sigma w.search.row t e)

  watched-size : (w : Watched) → length w.search.row ≡ n → length (watched_round ds n perplexity w).search.row ≡ n
  unfolding watched_round
  watched-size w e = round-size ds n perplexity w.search (le_of_eq (sym e)) ∙ e

  watches-past : (t : List Float) (k : ℕ) (w : Watched) → length w.search.row ≡ n → watches k (watched_past t w) ≡ watched_past t (watches k w)
  unfolding until
  watches-past t zero w e = refl
  watches-past t (suc k) w e = ⊎_elim
      (λ m. watches-end (suc k) (watched_past t w) m ∙ ap (watched_past t) (sym (watches-end (suc k) w m)))
      (λ m.
      watches-on k (watched_past t w) m
      ∙ ap (watches k) (watched-past t w e)
      ∙ watches-past t k (watched_round ds n perplexity w) (watched-size w e)
      ∙ ap (watched_past t) (sym (watches-on k w m)))
      (two w.search.met)

  first_alone : (l m : List Float) → length l ≡ n → length m ≡ n → watched_round ds n perplexity (from l) ≡ watched_round ds n perplexity (from m)
  unfolding watched_round
  first_alone l m e f = rw (round-alone ds n perplexity l m open_bounds e f, weighed-alone ds n one64 l m e f)

  watches-alone : (l m : List Float) → length l ≡ n → length m ≡ n → watches most_rounds (from l) ≡ watches most_rounds (from m)
  watches-alone l m e f = watches-on (most_rounds - 1) (from l) refl ∙ ap (watches (most_rounds - 1)) (first_alone l m e f) ∙ sym (watches-on (most_rounds - 1) (from m) refl)

  pub last-sum-alone : (p : List Float) → n ≤ length p → last_sum ds n perplexity p ≡ last_sum ds n perplexity (replicate n zero64)
  unfolding watched_search
  last-sum-alone p h =
      let l = take n p in
      let e : length l ≡ n = length-take-le n p h in
      ap (λ (w : Watched). w.sum)
      (ap (λ (q : List Float). watches most_rounds (from q)) (sym (take-append-drop n p))
      ∙ watches-past (drop n p) most_rounds (from l) e
      ∙ ap (watched_past (drop n p)) (watches-alone l (replicate n zero64) e (length-replicate n zero64)))

  -- ---- a blind search ends with equal shares

  abbrev alike : Float
  alike = div binary64 one64 (of_int binary64 (pos n))

  -- the row has n places, and where the sum is too small, each of them holds 1/n
  record Filled (w : Watched) : Type 0 where
    size : length w.search.row ≡ n
    holds : lt w.sum smallest ≡ true → (j : ℕ) → j < n → at w.search.row j ≡ alike

  row-of-round : (s : Search) → (round_of ds n perplexity s).row ≡ row_of ds n s.bounds.sigma s.row
  unfolding round_of
  row-of-round s = go (row_of ds n s.bounds.sigma s.row) (excess (row_of ds n s.bounds.sigma s.row) n perplexity) (close (excess (row_of ds n s.bounds.sigma s.row) n perplexity))
    where
      go : (r : List Float) (d : Float) (b : Bool) → (cond b (searched r s.bounds true) (searched r (narrowed s.bounds d) false)).row ≡ r
      go r d true = refl
      go r d false = refl

  row-filled : (sigma : Float) (l : List Float) → length l ≡ n → lt (weight_sum (weighed ds n sigma l) n) smallest ≡ true → (j : ℕ) → j < n → at (row_of ds n sigma l) j ≡ alike
  unfolding row_of shared_by
  row-filled sigma l e b j h =
      let w = weighed ds n sigma l in
      let room : n ≤ length w = le_of_eq (sym (weighed-size ds n sigma l ∙ e)) in
      rw b (ap (λ (m : List Float). at m j) (filled-loop alike n w room) ∙ written_at (λ i. alike) nan n w room j h)

  round_filled : (w : Watched) → length w.search.row ≡ n → Filled (watched_round ds n perplexity w)
  unfolding watched_round
  round_filled w e = record {
    size = watched-size w e;
    holds = λ b j h. ap (λ (m : List Float). at m j) (row-of-round w.search) ∙ row-filled w.search.bounds.sigma w.search.row e b j h;
  }

  watches-filled : (k : ℕ) (w : Watched) → Filled w → Filled (watches k w)
  unfolding until
  watches-filled zero w f = f
  watches-filled (suc k) w f = ⊎_elim
      (λ m. subst Filled (sym (watches-end (suc k) w m)) f)
      (λ m. subst Filled (sym (watches-on k w m)) (watches-filled k (watched_round ds n perplexity w) (round_filled w f.size)))
      (two w.search.met)

  all-filled : (p : List Float) → length p ≡ n → Filled (watched_search ds n perplexity p)
  unfolding watched_search
  all-filled p e = subst Filled (sym (watches-on (most_rounds - 1) (from p) refl)) (watches-filled (most_rounds - 1) (watched_round ds n perplexity (from p)) (round_filled (from p) e))

  pub blind-filled : blind_search ds n perplexity ≡ true → (j : ℕ) → j < n → at (shares_of ds n perplexity) j ≡ div binary64 one64 (of_int binary64 (pos n))
  blind-filled b j h = ap (λ (m : List Float). at m j) (sym (watched-row (replicate n zero64))) ∙ (all-filled (replicate n zero64) (length-replicate n zero64)).holds b j h
