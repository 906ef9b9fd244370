-- The sigma search, as the scope paper (rule 1) and `binary_search_sigma` have it: the shares of a row of distances that have a perplexity. Definitions only.
use Rattle.std.specs.Prelude.{List, Bool, true, false, cond, ℕ, pos, set, replicate, Float}
use Rattle.std.specs.Float.{inf, binary64}
use Rattle.std.specs.Float.Ieee.{of_int, add, sub, mul, div, neg, lt, eq}
use Rattle.laws.specs.Loops.{loop, until}
use Rattle.laws.specs.Area.{at, bits, zero64, one64, two64}
use Rattle.areas.specs.Filled.{filled}
use Rattle.elementary.specs.Exp.{exp_of}
use Rattle.elementary.specs.Ln.{ln_of}
use Rattle.elementary.specs.Limits.{abs_of}
use Rattle.affinity_sigma.specs.declared.Bounds.{Bounds}

-- ---- the row of a sigma

-- exp (-d / ((2·sigma)·sigma)), and 0 at a distance of exactly 0.0, of either sign
unfoldable pub weight_of : Float → Float → Float
unfolding exp_of
weight_of sigma d = cond (eq d zero64) zero64 (exp_of (div binary64 (neg d) (mul binary64 (mul binary64 two64 sigma) sigma)))

abbrev pub weigh_step : List Float → Float → ℕ → List Float → List Float
weigh_step ds sigma j p = set p j (weight_of sigma (at ds j))

-- the weights of n distances in the first n places, the tail kept
abbrev pub weighed : List Float → ℕ → Float → List Float → List Float
weighed ds n sigma p = loop (weigh_step ds sigma) n 0 p

abbrev pub weight_step : List Float → ℕ → Float → Float
weight_step p j s = add binary64 s (at p j)

-- the sum of the first n: from +0.0 on, by rising index
abbrev pub weight_sum : List Float → ℕ → Float
weight_sum p n = loop (weight_step p) n 0 zero64

abbrev pub divide_step : Float → ℕ → List Float → List Float
divide_step s j p = set p j (div binary64 (at p j) s)

-- 1e-8
abbrev pub smallest : Float
smallest = bits 0x3e45798ee2308c3a

-- divided by their sum; a sum below 1e-8 makes every entry 1 / length
unfoldable pub shared_by : Float → ℕ → List Float → List Float
unfolding loop
shared_by s n p = cond (lt s smallest) (filled (div binary64 one64 (of_int binary64 (pos n))) n p) (loop (divide_step s) n 0 p)

unfoldable pub row_of : List Float → ℕ → Float → List Float → List Float
unfolding weight_of shared_by loop
row_of ds n sigma p = let w = weighed ds n sigma p in shared_by (weight_sum w n) n w

-- ---- its perplexity

-- 1e-10
abbrev pub tiny : Float
tiny = bits 0x3ddb7cdfd9d7bdbb

-- (-v)·ln v: only shares above 1e-10 enter the entropy
unfoldable pub term_of : Float → Float
unfolding ln_of
term_of v = cond (lt tiny v) (mul binary64 (neg v) (ln_of v)) zero64

abbrev pub entropy_step : List Float → ℕ → Float → Float
entropy_step p j h = add binary64 h (term_of (at p j))

abbrev pub entropy_of : List Float → ℕ → Float
entropy_of p n = loop (entropy_step p) n 0 zero64

-- how far the perplexity, which is exp of the entropy, is above the one asked for
unfoldable pub excess : List Float → ℕ → Float → Float
unfolding term_of loop exp_of
excess p n perplexity = sub binary64 (exp_of (entropy_of p n)) perplexity

-- 1e-5
abbrev pub tolerance : Float
tolerance = bits 0x3ee4f8b588e368f1

-- within the tolerance, strictly
abbrev pub close : Float → Bool
close diff = lt (abs_of diff) tolerance

-- ---- the search

-- too high: sigma is the upper bound, and the middle to the lower one is next
-- else: sigma is the lower bound, and its double is next while there is no upper one, then the middle to that
unfoldable pub narrowed : Bounds → Float → Bounds
narrowed b diff =
    cond (lt zero64 diff)
    (record { low = b.low; high = b.sigma; sigma = div binary64 (add binary64 b.sigma b.low) two64 })
    (record { low = b.sigma; high = b.high; sigma = cond (eq b.high (inf false)) (mul binary64 b.sigma two64) (div binary64 (add binary64 b.sigma b.high) two64) })

-- the row, the bounds, and whether the perplexity was met
pub record Search : Type 0 where
  pub row : List Float
  pub bounds : Bounds
  pub met : Bool

abbrev pub searched : List Float → Bounds → Bool → Search
searched r b m = record { row = r; bounds = b; met = m }

abbrev pub is_met : Search → Bool
is_met s = s.met

-- one round: the row of this sigma, and the next sigma where its perplexity is not close enough
unfoldable pub round_of : List Float → ℕ → Float → Search → Search
unfolding row_of excess narrowed abs_of
round_of ds n perplexity s =
    let r = row_of ds n s.bounds.sigma s.row in
    let diff = excess r n perplexity in
    cond (close diff) (searched r s.bounds true) (searched r (narrowed s.bounds diff) false)

-- 1e-20, infinity, 1
abbrev pub open_bounds : Bounds
open_bounds = record { low = bits 0x3bc79ca10c924223; high = inf false; sigma = one64 }

-- at most so many rounds
abbrev pub most_rounds : ℕ
most_rounds = 50

-- left once the perplexity is met: the last round's row, and the tail of what was there
unfoldable pub sigma_shares : List Float → ℕ → Float → List Float → List Float
unfolding round_of until
sigma_shares ds n perplexity p = (until is_met (round_of ds n perplexity) most_rounds (searched p open_bounds false)).row

-- the shares themselves, from a row of n zeros on
abbrev pub shares_of : List Float → ℕ → Float → List Float
shares_of ds n perplexity = sigma_shares ds n perplexity (replicate n zero64)

-- ---- the search watched: whether the last round's row was filled

-- a search, and the sum of the weights of its last round
pub record Watched : Type 0 where
  pub search : Search
  pub sum : Float

abbrev pub watched : Search → Float → Watched
watched s v = record { search = s; sum = v }

abbrev pub watched_met : Watched → Bool
watched_met w = w.search.met

-- one round, and the sum of the weights before they are made shares
unfoldable pub watched_round : List Float → ℕ → Float → Watched → Watched
unfolding round_of weight_of loop
watched_round ds n perplexity w = watched (round_of ds n perplexity w.search) (weight_sum (weighed ds n w.search.bounds.sigma w.search.row) n)

unfoldable pub watched_search : List Float → ℕ → Float → List Float → Watched
unfolding watched_round until
watched_search ds n perplexity p = until watched_met (watched_round ds n perplexity) most_rounds (watched (searched p open_bounds false) zero64)

-- the sum of the weights of the last round
abbrev pub last_sum : List Float → ℕ → Float → List Float → Float
last_sum ds n perplexity p = (watched_search ds n perplexity p).sum

-- the search is blind: its last round's row was filled, because the sum of the weights was too small
abbrev pub blind_search : List Float → ℕ → Float → Bool
blind_search ds n perplexity = lt (last_sum ds n perplexity (replicate n zero64)) smallest
