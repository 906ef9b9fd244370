-- The search watched: of the distances only the first n are read, and where each of them is 0 the search is blind. Assumes nothing.
use mathlib.Core.Path.{◌≡◌, refl, sym, ap, subst, ◌∙◌}
use mathlib.Core.Logic.{⊎_elim}
use mathlib.Core.List.{List}
use mathlib.Core.Bool.{Bool, true, false}
use Prim.Native.Nat.{ℕ, zero, suc, ◌<◌, ◌≤◌}
use native.Mathlib.Omega.{arith}
use native.Mathlib.Nat.{le_of_eq}
use lib.ListN.{length, set, replicate, length-replicate}
use lib.Ieee.{Float, nan, binary64, add, lt, eq, of_bits}
use Rattle.laws.specs.Loops.{until}
use Rattle.laws.specs.Area.{at, zero64}
use Rattle.laws.proofs.Bools.{two}
use Rattle.laws.proofs.Loops.{loop-same, loop-keeps}
use Rattle.laws.proofs.Untils.{until_end}
use Rattle.laws.proofs.Written.{written_at}
use Rattle.affinity_sigma.specs.Sigma.{weight_of, weigh_step, weighed, weight_step, weight_sum, smallest, row_of, round_of, searched, open_bounds, most_rounds}
use Rattle.affinity_sigma.specs.Sigma.{Watched, watched, watched_met, watched_round, watched_search, last_sum, blind_search}
use Rattle.affinity_sigma.proofs.Alone.{until-on, round-size}

-- ---- steps that a test ends

module _ {A : Type 0} (p : A → Bool) where
  until-same : (f g : A → A) → ((x : A) → f x ≡ g x) → (k : ℕ) (x : A) → until p f k x ≡ until p g k x
  unfolding until
  until-same f g h zero x = refl
  until-same f g h (suc k) x = ⊎_elim
      (λ e. until_end p f (suc k) x e ∙ sym (until_end p g (suc k) x e))
      (λ e. until-on p f k x e ∙ until-same f g h k (f x) ∙ ap (until p g k) (h x) ∙ sym (until-on p g k x e))
      (two (p x))

  until-keeps : (P : A → Type 0) (f : A → A) → ((x : A) → P x → P (f x)) → (k : ℕ) (x : A) → P x → P (until p f k x)
  unfolding until
  until-keeps P f h zero x y = y
  until-keeps P f h (suc k) x y = ⊎_elim
      (λ e. subst P (sym (until_end p f (suc k) x e)) y)
      (λ e. subst P (sym (until-on p f k x e)) (until-keeps P f h k (f x) (h x y)))
      (two (p x))

-- ---- of the distances only the first n are read

module _ (ds es : List Float) (n : ℕ) (same : (j : ℕ) → j < n → at ds j ≡ at es j) where
  weighed-read : (sigma : Float) (l : List Float) → weighed ds n sigma l ≡ weighed es n sigma l
  weighed-read sigma l = loop-same (weigh_step ds sigma) (weigh_step es sigma) n 0 l (λ j q a b. ap (λ (v : Float). set q j (weight_of sigma v)) (same j (omega arith)))

  module _ (perplexity : Float) where
    watched-read : (w : Watched) → watched_round ds n perplexity w ≡ watched_round es n perplexity w
    unfolding watched_round round_of row_of
    watched-read w = rw (weighed-read w.search.bounds.sigma w.search.row)

    pub last-sum-read : (p : List Float) → last_sum ds n perplexity p ≡ last_sum es n perplexity p
    unfolding watched_search
    last-sum-read p =
        let from = watched (searched p open_bounds false) zero64 in
        ap (λ (w : Watched). w.sum) (until-same watched_met (watched_round ds n perplexity) (watched_round es n perplexity) watched-read most_rounds from)

-- ---- where each distance is 0

nothing-more : add binary64 zero64 zero64 ≡ zero64
unfolding add of_bits
nothing-more = refl

too_small : lt zero64 smallest ≡ true
unfolding lt of_bits
too_small = refl

module _ (ds : List Float) (n : ℕ) (zeros : (j : ℕ) → j < n → eq (at ds j) zero64 ≡ true) where
  no-weight : (sigma : Float) (j : ℕ) → j < n → weight_of sigma (at ds j) ≡ zero64
  unfolding weight_of
  no-weight sigma j h = rw (zeros j h)

  no-sum : (sigma : Float) (l : List Float) → n ≤ length l → weight_sum (weighed ds n sigma l) n ≡ zero64
  no-sum sigma l h =
      let w = weighed ds n sigma l in
      loop-keeps (λ k s. s ≡ zero64) (weight_step w) n 0 zero64
      (λ j s b e. rw (e, written_at (λ i. weight_of sigma (at ds i)) nan n l h j (omega arith) ∙ no-weight sigma j (omega arith)) nothing-more) refl

  module _ (perplexity : Float) where
    -- the row has n places, and the weights have no sum
    record Weightless (w : Watched) : Type 0 where
      size : length w.search.row ≡ n
      none : w.sum ≡ zero64

    weightless-more : (w : Watched) → Weightless w → Weightless (watched_round ds n perplexity w)
    unfolding watched_round
    weightless-more w y = record {
      size = round-size ds n perplexity w.search (le_of_eq (sym y.size)) ∙ y.size;
      none = no-sum w.search.bounds.sigma w.search.row (le_of_eq (sym y.size));
    }

    weightless-all : Weightless (watched_search ds n perplexity (replicate n zero64))
    unfolding watched_search
    weightless-all =
        let from = watched (searched (replicate n zero64) open_bounds false) zero64 in
        until-keeps watched_met Weightless (watched_round ds n perplexity) weightless-more most_rounds from (record { size = length-replicate n zero64; none = refl })

    pub zeros-blind : blind_search ds n perplexity ≡ true
    zeros-blind = rw weightless-all.none too_small
