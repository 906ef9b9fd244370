-- The rounds of the sigma search, watched: a round that goes on, the one that meets the perplexity, and the last. Assumes nothing.
use mathlib.Core.Path.{◌≡◌, refl, sym, ap, subst, ◌∙◌}
use mathlib.Core.List.{List}
use mathlib.Core.Bool.{Bool, true, false}
use Prim.Native.Nat.{ℕ, ◌+◌, ◌-◌, ◌<◌, ◌≤◌}
use lib.Ieee.{Float, inf, binary64, div, of_bits}
use Rattle.laws.specs.Loops.{until}
use Rattle.laws.proofs.Untils.{Untils, until-next, until-start, until-done, until_end}
use Rattle.laws.specs.Area.{zero64, one64}
use Rattle.affinity_sigma.specs.declared.Bounds.{Bounds}
use Rattle.affinity_sigma.specs.Sigma.{weighed, weight_sum, row_of, excess, close, narrowed, searched, round_of, open_bounds, sigma_shares, most_rounds}
use Rattle.affinity_sigma.specs.Sigma.{Watched, watched, watched_met, watched_round, watched_search, last_sum}
use Rattle.affinity_sigma.proofs.Watched.{watched-row}

-- infinity, as the code writes it
pub unbounded : div binary64 one64 zero64 ≡ inf false
unfolding div of_bits
unbounded = refl

-- k rounds have led to this row, these bounds and this sum of weights, and the perplexity is not met yet
pub record Narrows (ds : List Float) (n : ℕ) (perplexity : Float) (p : List Float) (k : ℕ) (row : List Float) (b : Bounds) (sum : Float) : Type 0 where
  pub so_far : Untils watched_met (watched_round ds n perplexity) most_rounds (watched (searched p open_bounds false) zero64) k (watched (searched row b false) sum)

-- one round in the code: what it makes of a row, bounds and a sum
pub record Round (ds : List Float) (n : ℕ) (perplexity : Float) (row : List Float) (b : Bounds) (row' : List Float) (sum' diff : Float) : Type 0 where
  pub row_is : row' ≡ row_of ds n b.sigma row
  pub sum_is : sum' ≡ weight_sum (weighed ds n b.sigma row) n
  pub off-by : diff ≡ excess row' n perplexity

round-on : (ds : List Float) (n : ℕ) (perplexity : Float) (row : List Float) (b : Bounds) (sum : Float) {row' : List Float} {b' : Bounds} {sum' diff : Float}
    → Round ds n perplexity row b row' sum' diff → close diff ≡ false → b' ≡ narrowed b diff
    → watched_round ds n perplexity (watched (searched row b false) sum) ≡ watched (searched row' b' false) sum'
unfolding watched_round round_of
round-on ds n perplexity row b sum r h eb = rw (sym r.row_is, sym r.off-by, h, sym eb, sym r.sum_is)

round-end : (ds : List Float) (n : ℕ) (perplexity : Float) (row : List Float) (b : Bounds) (sum : Float) {row' : List Float} {sum' diff : Float}
    → Round ds n perplexity row b row' sum' diff → close diff ≡ true
    → watched_round ds n perplexity (watched (searched row b false) sum) ≡ watched (searched row' b true) sum'
unfolding watched_round round_of
round-end ds n perplexity row b sum r h = rw (sym r.row_is, sym r.off-by, h, sym r.sum_is)

pub narrows-start : (ds : List Float) (n : ℕ) (perplexity : Float) (p : List Float) (b : Bounds) → b ≡ open_bounds → Narrows ds n perplexity p 0 p b zero64
narrows-start ds n perplexity p b e = record { so_far = rw e (until-start watched_met (watched_round ds n perplexity) most_rounds (watched (searched p open_bounds false) zero64)) }

pub narrows-next : {ds : List Float} {n : ℕ} {perplexity : Float} {p row row' : List Float} {k : ℕ} {b b' : Bounds} {sum sum' diff : Float}
    → Narrows ds n perplexity p k row b sum → k < most_rounds → Round ds n perplexity row b row' sum' diff → close diff ≡ false → b' ≡ narrowed b diff → Narrows ds n perplexity p (k + 1) row' b' sum'
narrows-next {ds} {n} {perplexity} {p} {row} {row'} {k} {b} {b'} {sum} {sum'} r l o h eb =
    let start = watched (searched p open_bounds false) zero64 in
    record { so_far = subst (λ (w : Watched). Untils watched_met (watched_round ds n perplexity) most_rounds start (k + 1) w) (round-on ds n perplexity row b sum o h eb) (until-next r.so_far l refl) }

-- the search is over: its row is the shares, and its sum the last
ended : (ds : List Float) (n : ℕ) (perplexity : Float) (p row : List Float) (b : Bounds) (m : Bool) (sum : Float)
    → watched (searched row b m) sum ≡ watched_search ds n perplexity p
    → (row ≡ sigma_shares ds n perplexity p) × (sum ≡ last_sum ds n perplexity p)
ended ds n perplexity p row b m sum e = (ap (λ (w : Watched). w.search.row) e ∙ watched-row ds n perplexity p, ap (λ (w : Watched). w.sum) e)

pub narrows-met : {ds : List Float} {n : ℕ} {perplexity : Float} {p row row' : List Float} {k : ℕ} {b : Bounds} {sum sum' diff : Float}
    → Narrows ds n perplexity p k row b sum → k < most_rounds
    → Round ds n perplexity row b row' sum' diff → close diff ≡ true → (row' ≡ sigma_shares ds n perplexity p) × (sum' ≡ last_sum ds n perplexity p)
unfolding watched_search
narrows-met {ds} {n} {perplexity} {p} {row} {row'} {k} {b} {sum} {sum'} r l o h =
    let s = until-next r.so_far l refl in
    let e = round-end ds n perplexity row b sum o h in
    let left = most_rounds - (k + 1) in
    ended ds n perplexity p row' b true sum'
    (sym (until_end watched_met (watched_round ds n perplexity) left (watched (searched row' b true) sum') refl) ∙ ap (until watched_met (watched_round ds n perplexity) left) (sym e) ∙ s.same)

pub narrows-done : {ds : List Float} {n : ℕ} {perplexity : Float} {p row : List Float} {k : ℕ} {b : Bounds} {sum : Float} → Narrows ds n perplexity p k row b sum → most_rounds ≤ k
    → (row ≡ sigma_shares ds n perplexity p) × (sum ≡ last_sum ds n perplexity p)
unfolding watched_search
narrows-done {ds} {n} {perplexity} {p} {row} {k} {b} {sum} r l = ended ds n perplexity p row b false sum (until-done r.so_far l)
