-- What the private functions answer on the way to the lists. Definitions only.
use Rattle.std.specs.Prelude.{◌≡◌, List, map, Bool, false, cond, ℕ, ◌+◌, ◌*◌, ◌<◌, ◌≤◌, eqb, ltb, length, drop, Float}
use Rattle.laws.specs.Domain.{most_frames}
use Rattle.laws.specs.Area.{at, num, zero64}
use Rattle.laws.specs.Sums.{sum}
use Rattle.laws.specs.Joined.{those}
use Rattle.affinity_links.specs.Links.{Rising, found, span, past, held_of, Cursor}
use Rattle.affinity_lists.specs.Lists.{names, linked, joint}

-- 1 if the frame at place t of row j does not name j back, else 0
unfoldable pub miss_of : ℕ → List ℕ → ℕ → ℕ → ℕ
miss_of k J j t = cond (names k J (num J (j * k + t)) j) 0 1

-- how many of the frames that j names do not name j back
abbrev pub misses_of : ℕ → List ℕ → ℕ → ℕ
misses_of k J j = sum (miss_of k J j) k

-- ---- the areas while the lists above i are finished: rows up to i in I and their shares in W, the lists above i from the offsets in O on

-- does the finished list j name i?
abbrev pub list_names : List ℕ → List ℕ → ℕ → ℕ → Bool
list_names I O j i = ltb (found I (num O j) (span O j) i) (span O j)

-- is i linked with j, and how strongly? Of a frame below i the rows tell, of one above i its list; i itself is not linked
unfoldable pub link_sought : List ℕ → List ℕ → ℕ → ℕ → ℕ → Bool
link_sought I O k i j = cond (ltb j i) (linked k I i j) (cond (eqb j i) false (list_names I O j i))

unfoldable pub weight_sought : List Float → List ℕ → List ℕ → ℕ → ℕ → ℕ → Float
weight_sought W I O k i j = cond (ltb j i) (joint k I W j i) (cond (eqb j i) zero64 (cond (list_names I O j i) (at W (num O j + found I (num O j) (span O j) i)) zero64))

-- list i, and its weights
abbrev pub list_sought : List ℕ → List ℕ → ℕ → ℕ → ℕ → List ℕ
list_sought I O n k i = those (link_sought I O k i) n

abbrev pub weights_sought : List Float → List ℕ → List ℕ → ℕ → ℕ → ℕ → List Float
weights_sought W I O n k i = map (weight_sought W I O k i) (list_sought I O n k i)

-- ---- the words of the cursors stand in R, that of row j or list j at place j

-- the m numbers from place a on rise, and w is the word of the cursor below which those below j stand
pub record Part (W : List Float) (I : List ℕ) (a m j w : ℕ) : Type 0 where
  pub small : m ≤ most_frames
  pub inside : (a + m ≤ length I) × (a + m ≤ length W)
  pub rising : Rising I a m
  pub cursor : Cursor (past I a) m j w

-- the cursors stand at i + 1, and list i can be written just below place q: between the rows below i and the lists above i there is room for it
pub record Room (W : List Float) (I O R : List ℕ) (n k i q : ℕ) : Type 0 where
  pub frame : (i < n) × (n ≤ most_frames)
  pub sizes : (n ≤ length O) × (n ≤ length R)
  pub own : Part W I (i * k) k i (num R i)
  pub rows : (j : ℕ) → j < i → Part W I (j * k) k (i + 1) (num R j)
  pub lists : (j : ℕ) → i < j → j < n → Part W I (num O j) (span O j) (i + 1) (num R j)
  pub inside : (q ≤ length I) × (q ≤ length W)
  pub under : i * k + length (list_sought I O n k i) ≤ q
  pub over : (j : ℕ) → i < j → j < n → q ≤ num O j

-- R': the cursors stand at i, also the one of list i, which is written
pub record Lowered (I O R : List ℕ) (n k i : ℕ) (R' : List ℕ) : Type 0 where
  pub own : num R' i ≡ held_of (num (list_sought I O n k i)) (length (those (link_sought I O k i) i))
  pub rows : (j : ℕ) → j < i → Cursor (past I (j * k)) k i (num R' j)
  pub lists : (j : ℕ) → i < j → j < n → Cursor (past I (num O j)) (span O j) i (num R' j)
  pub tail : drop n R' ≡ drop n R

-- R': the cursors stand at the ends of the n rows
pub record Topped (I R : List ℕ) (n k : ℕ) (R' : List ℕ) : Type 0 where
  pub rows : (j : ℕ) → j < n → num R' j ≡ held_of (past I (j * k)) k
  pub tail : drop n R' ≡ drop n R
