-- Where a frame stands in a row, and the link of one frame with another as the areas tell it while the lists are written. Definitions only.
use Rattle.std.specs.Prelude.{◌≡◌, List, Bool, cond, ◌||◌, ℕ, ◌+◌, ◌-◌, ◌*◌, ◌/◌, ◌%◌, ◌<◌, ◌≤◌, eqb, ltb, length, Float, Option, Some, None}
use Rattle.std.specs.Float.{binary64}
use Rattle.std.specs.Float.Ieee.{add}
use Rattle.laws.specs.Domain.{most_frames}
use Rattle.laws.specs.Loops.{first}
use Rattle.laws.specs.Area.{at, num, zero64}

-- the k numbers from place a on rise strictly
abbrev pub Rising : List ℕ → ℕ → ℕ → Type 0
Rising l a k = (s t : ℕ) → s < t → t < k → num l (a + s) < num l (a + t)

-- where j stands among the k numbers from place a on; k if it does not
abbrev pub found : List ℕ → ℕ → ℕ → ℕ → ℕ
found l a k j = first (λ t. eqb (num l (a + t)) j) k

-- its place, and none if it does not
abbrev pub found_place : List ℕ → ℕ → ℕ → ℕ → Option ℕ
found_place l a k j = cond (ltb (found l a k j) k) (Some (found l a k j)) None

-- w, and what stands p past place a if p is below k
abbrev pub plus_of : List Float → ℕ → ℕ → ℕ → Float → Float
plus_of S a k p w = cond (ltb p k) (add binary64 w (at S (a + p))) w

-- how long list j is
abbrev pub span : List ℕ → ℕ → ℕ
span O j = num O (j + 1) - num O j

-- ---- cursors

-- what stands t past place a
abbrev pub past : List ℕ → ℕ → ℕ → ℕ
past I a t = num I (a + t)

-- a cursor c among the numbers f 0, f 1, .. and one more than the number just below it, as one word; 0 where nothing is below it. Every number of a frame is below 8191
unfoldable pub held_of : (ℕ → ℕ) → ℕ → ℕ
held_of f c = cond (eqb c 0) 0 (c * 8192 + (f (c - 1) + 1))

-- the cursor of a word
abbrev pub cursor_of : ℕ → ℕ
cursor_of w = w / 8192

-- the word after j while the frames fall: the cursor falls by one where the number just below it is j
unfoldable pub fallen_of : (ℕ → ℕ) → ℕ → ℕ → ℕ
fallen_of f w j = cond (eqb (w % 8192) (j + 1)) (held_of f (cursor_of w - 1)) w

-- w is the word of the cursor among k rising numbers below which those below j stand
pub record Cursor (f : ℕ → ℕ) (k j w : ℕ) : Type 0 where
  pub word : w ≡ held_of f (cursor_of w)
  pub within : cursor_of w ≤ k
  pub under : (t : ℕ) → t < cursor_of w → f t < j
  pub over : (t : ℕ) → cursor_of w ≤ t → t < k → j ≤ f t

-- v, and what stands at the cursor of p past place a if the cursor fell from w to p
abbrev pub plus_fallen : List Float → ℕ → ℕ → ℕ → Float → Float
plus_fallen S a w p v = cond (ltb p w) (add binary64 v (at S (a + cursor_of p))) v

-- ---- the link of i with j while list i is written: c is the word of row i, w the one of row j or list j

-- is i linked with a frame j below it? Row i tells, or row j
abbrev pub below_yes : List ℕ → ℕ → ℕ → ℕ → ℕ → ℕ → Bool
below_yes I k i j c w = ltb (fallen_of (past I (i * k)) c j) c || ltb (fallen_of (past I (j * k)) w i) w

-- and the weight of that link: +0.0, the share in row j, the share in row i; +0.0 where there is none
abbrev pub below_weight : List Float → List ℕ → ℕ → ℕ → ℕ → ℕ → ℕ → Float
below_weight S I k i j c w = plus_fallen S (i * k) c (fallen_of (past I (i * k)) c j) (plus_fallen S (j * k) w (fallen_of (past I (j * k)) w i) zero64)

-- of a frame j above it the finished list j tells
abbrev pub above_yes : List ℕ → List ℕ → ℕ → ℕ → ℕ → Bool
above_yes I O i j w = ltb (fallen_of (past I (num O j)) w i) w

abbrev pub above_weight : List Float → List ℕ → List ℕ → ℕ → ℕ → ℕ → Float
above_weight S I O i j w = cond (above_yes I O i j w) (at S (num O j + cursor_of (fallen_of (past I (num O j)) w i))) zero64

-- of any other frame
unfoldable pub sought_yes : List ℕ → List ℕ → ℕ → ℕ → ℕ → ℕ → ℕ → Bool
sought_yes I O k i j c w = cond (ltb j i) (below_yes I k i j c w) (above_yes I O i j w)

unfoldable pub sought_weight : List Float → List ℕ → List ℕ → ℕ → ℕ → ℕ → ℕ → ℕ → Float
sought_weight S I O k i j c w = cond (ltb j i) (below_weight S I k i j c w) (above_weight S I O i j w)

-- the two words afterwards: the one of row i changes only with the frames below i
unfoldable pub sought_row : List ℕ → ℕ → ℕ → ℕ → ℕ → ℕ
sought_row I k i j c = cond (ltb j i) (fallen_of (past I (i * k)) c j) c

unfoldable pub sought_cursor : List ℕ → List ℕ → ℕ → ℕ → ℕ → ℕ → ℕ
sought_cursor I O k i j w = cond (ltb j i) (fallen_of (past I (j * k)) w i) (fallen_of (past I (num O j)) w i)

-- what stands from place a up to the cursor of w may be read, and names frames
pub record Within (I : List ℕ) (a w : ℕ) : Type 0 where
  pub small : cursor_of w ≤ most_frames
  pub some : 0 < w → 0 < cursor_of w
  pub inside : a + cursor_of w ≤ length I
  pub frames : (t : ℕ) → t < cursor_of w → past I a t < most_frames

-- and so may the values there
abbrev pub WithinBoth : List Float → List ℕ → ℕ → ℕ → Type 0
WithinBoth S I a w = Within I a w × (a + cursor_of w ≤ length S)

-- what may be read for the link of i with j
pub record Sought (S : List Float) (I O : List ℕ) (k i j c w : ℕ) : Type 0 where
  pub small : (i < most_frames) × (j < most_frames)
  pub below : j < i → WithinBoth S I (i * k) c × WithinBoth S I (j * k) w
  pub above : i ≤ j → (j < length O) × WithinBoth S I (num O j) w
