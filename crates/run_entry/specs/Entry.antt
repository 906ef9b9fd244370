-- The entry tests of a work call: the record, the areas, the contents; and a state in good order. Definitions only.
use Rattle.std.specs.Prelude.{List, Result, Ok, Err, ◌≡◌, Bool, true, false, cond, not, ◌&&◌, ℕ, ◌+◌, ◌-◌, ◌*◌, ◌<◌, ◌≤◌, eqb, ltb, leb, length}
use Rattle.laws.specs.Loops.{first}
use Rattle.laws.specs.Area.{num}
use Rattle.refusal.specs.Refusal.{refusal_of}
use Rattle.run_record.specs.declared.Settings.{Settings}
use Rattle.run_record.specs.declared.Run.{Run}
use Rattle.run_record.specs.Record.{is_tree, settings_fault, counters_ok, per_of, state_fits, k_of, sizes_of, GoodSettings}
use Rattle.tree_node.specs.declared.Node.{Node}
use Rattle.tree_node.specs.Arena.{nameable}
use Rattle.tree.specs.Insert.{tree, tree_ok}
use Rattle.tree.specs.Contents.{contents_of}
use Rattle.tree_contents.specs.declared.Unsound.{Unsound}
use Rattle.tree_contents.specs.declared.Unsound.TheVariants.{Used, Count, Point, Block}
use Rattle.run_entry.specs.State.{State}
use Rattle.run_entry.specs.declared.Fault.{Fault}
use Rattle.run_entry.specs.declared.Fault.TheVariants.{Settings as BadSettings, Counters, Areas, Offsets, Index, Tree}

-- what the entry tests find: nothing, or a fault
abbrev pub Found : Type 0
Found = Result Unit Fault

-- ---- areas: each is long enough

-- lists, offsets and at least one node, asked of a Barnes-Hut run
unfoldable pub tree_fits : ℕ → ℕ → ℕ → ℕ → ℕ → ℕ → Bool
tree_fits n links a x o nodes = leb links a && leb links x && leb (n + 1) o && leb 1 nodes

-- p, i, g, a, x, o, f: the lengths of positions, increments, gains, affinities, indices, offsets and forces
unfoldable pub areas_fit : Settings → ℕ → ℕ → ℕ → ℕ → ℕ → ℕ → ℕ → ℕ → Bool
areas_fit s p i g a x o f nodes =
    leb (sizes_of s).cells p && leb (sizes_of s).cells i && leb (sizes_of s).cells g && leb (sizes_of s).forces f
    && cond (is_tree s.method) (tree_fits s.n (sizes_of s).links a x o nodes) (leb (sizes_of s).square a)

-- ---- contents of a Barnes-Hut run

-- an offset: 0 at the start, none falls, none passes the slots
unfoldable pub offset_fine : List ℕ → ℕ → ℕ → Bool
offset_fine off most i = cond (eqb i 0) (eqb (num off i) 0) (leb (num off (i - 1)) (num off i) && leb (num off i) most)

unfoldable pub index_fine : List ℕ → ℕ → ℕ → Bool
index_fine xs n i = ltb (num xs i) n

-- the first bad offset, n + 1 where there is none
abbrev pub first_offset : Settings → List ℕ → ℕ
first_offset s off = first (λ i. not (offset_fine off (sizes_of s).links i)) (s.n + 1)

-- how many links are listed
abbrev pub listed : Settings → List ℕ → ℕ
listed s off = num off s.n

-- the first bad index, the number of links where there is none
abbrev pub first_index : Settings → List ℕ → List ℕ → ℕ
first_index s xs off = first (λ i. not (index_fine xs s.n i)) (listed s off)

-- a faulty tree by its lowest faulty node; 0 where the number in use is bad
abbrev pub unsound_fault : Unsound → Fault
unsound_fault Used = Tree 0
unsound_fault (Count i) = Tree i
unsound_fault (Point i) = Tree i
unsound_fault (Block i) = Tree i

abbrev pub tree_fault : Result Unit Unsound → Found
tree_fault (Ok u) = Ok tt
tree_fault (Err u) = Err (unsound_fault u)

-- between an iteration's box and its finish the nodes in use are tested
unfoldable pub tree_fault_at : Run → List Node → Found
tree_fault_at r ns = cond (eqb r.phase 0) (Ok tt) (tree_fault (contents_of r.settings.n r.settings.c (tree r.used ns)))

-- offset i is the end of the list of frame i − 1
unfoldable pub contents_fault : Run → List ℕ → List ℕ → List Node → Found
contents_fault r xs off ns =
    cond (ltb (first_offset r.settings off) (r.settings.n + 1)) (Err (Offsets (first_offset r.settings off - 1)))
    (cond (ltb (first_index r.settings xs off) (listed r.settings off)) (Err (Index (first_index r.settings xs off))) (tree_fault_at r ns))

-- ---- all of them, in their order

abbrev pub is_fine : Found → Bool
is_fine (Ok t) = true
is_fine (Err f) = false

-- what follows: x where they pass, else what y makes of the fault
module _ {A : Type 0} where
  abbrev pub by_tests : Found → A → (Fault → A) → A
  by_tests (Ok t) x y = x
  by_tests (Err f) x y = y f

unfoldable pub record_fault : Run → Found
record_fault r = cond (not (eqb (settings_fault r.settings) 0)) (Err (BadSettings (refusal_of (settings_fault r.settings)))) (cond (counters_ok r) (Ok tt) (Err Counters))

unfoldable pub fault_at : Run → ℕ → ℕ → ℕ → ℕ → ℕ → List ℕ → List ℕ → List Node → Found
fault_at r p i g a f xs off ns =
    cond (is_fine (record_fault r))
    (cond (areas_fit r.settings p i g a (length xs) (length off) f (length ns))
    (cond (is_tree r.settings.method) (contents_fault r xs off ns) (Ok tt))
    (Err Areas))
    (record_fault r)

-- the same tests but those of the nodes, of which there are so many
unfoldable pub lists_fault : Run → List ℕ → List ℕ → Found
lists_fault r xs off =
    cond (ltb (first_offset r.settings off) (r.settings.n + 1)) (Err (Offsets (first_offset r.settings off - 1)))
    (cond (ltb (first_index r.settings xs off) (listed r.settings off)) (Err (Index (first_index r.settings xs off))) (Ok tt))

unfoldable pub fault_before_tree : Run → ℕ → ℕ → ℕ → ℕ → ℕ → List ℕ → List ℕ → ℕ → Found
fault_before_tree r p i g a f xs off nodes =
    cond (is_fine (record_fault r))
    (cond (areas_fit r.settings p i g a (length xs) (length off) f nodes)
    (cond (is_tree r.settings.method) (lists_fault r xs off) (Ok tt))
    (Err Areas))
    (record_fault r)

-- .. which found t: the nodes are to be tested
unfoldable pub asks_tree : Run → Found → Bool
asks_tree r t = is_fine t && is_tree r.settings.method && not (eqb r.phase 0)

unfoldable pub fault_of : State → Found
fault_of s =
    let m = s.memory in
    fault_at s.run (length m.positions) (length m.increments) (length m.gains) (length m.affinities) (length m.forces) m.indices m.offsets m.nodes

-- the number of a fault, which says what to look at: 12 for an area, and 21 to 25 where the scope paper had 13 (request 2026-10)
unfoldable pub fault_number : Fault → ℕ
fault_number (BadSettings r) = 21
fault_number Counters = 22
fault_number Areas = 12
fault_number (Offsets i) = 23
fault_number (Index i) = 24
fault_number (Tree i) = 25

-- ---- a state in good order

pub record GoodCounters (r : Run) : Type 0 where
  pub standing-fits : state_fits r.standing r.done r.settings.iterations r.phase r.settings.minimum ≡ true
  pub phase-below : r.phase < per_of r.settings.method r.settings.n
  pub total : r.units ≡ r.done * per_of r.settings.method r.settings.n + r.phase

pub record TreeAreas (s : Settings) (a x o nodes : ℕ) : Type 0 where
  pub links-most : 2 * s.n * k_of s ≤ a
  pub indices-most : 2 * s.n * k_of s ≤ x
  pub offsets-most : s.n + 1 ≤ o
  pub nodes-some : 1 ≤ nodes

pub record GoodAreas (s : Settings) (p i g a x o f nodes : ℕ) : Type 0 where
  pub positions-long : s.n * s.c ≤ p
  pub increments-long : s.n * s.c ≤ i
  pub gains-long : s.n * s.c ≤ g
  pub forces-long : s.n * (2 * s.c + 1) ≤ f
  pub tree-long : is_tree s.method ≡ true → TreeAreas s a x o nodes
  pub exact-long : is_tree s.method ≡ false → s.n * s.n ≤ a

-- what the contents are read within
pub record ContentsRoom (r : Run) (x o : ℕ) : Type 0 where
  pub settings-good : GoodSettings r.settings
  pub barnes-hut : is_tree r.settings.method ≡ true
  pub x-long : 2 * r.settings.n * k_of r.settings ≤ x
  pub o-long : r.settings.n + 1 ≤ o

-- the nodes in use, their counts at most m
pub record GoodTree (m : ℕ) (r : Run) (ns : List Node) : Type 0 where
  pub used-some : 0 < r.used
  pub used-most : r.used ≤ nameable (length ns)
  pub each-node : tree_ok r.settings.n m r.settings.c (tree r.used ns) ≡ true

pub record GoodContents (m : ℕ) (r : Run) (xs off : List ℕ) (ns : List Node) : Type 0 where
  pub each-offset : (i : ℕ) → i < r.settings.n + 1 → offset_fine off (sizes_of r.settings).links i ≡ true
  pub each_index : (i : ℕ) → i < listed r.settings off → index_fine xs r.settings.n i ≡ true
  pub tree : (r.phase ≡ 0 → ⊥) → GoodTree m r ns

-- in order, with counts of nodes in use of at most m
pub record Ordered (m : ℕ) (s : State) : Type 0 where
  pub settings : GoodSettings s.run.settings
  pub counters : GoodCounters s.run
  pub areas : GoodAreas s.run.settings (length s.memory.positions) (length s.memory.increments) (length s.memory.gains)
      (length s.memory.affinities) (length s.memory.indices) (length s.memory.offsets) (length s.memory.forces) (length s.memory.nodes)
  pub contents : is_tree s.run.settings.method ≡ true → GoodContents m s.run s.memory.indices s.memory.offsets s.memory.nodes

-- what the entry tests pass: no count is above n
abbrev pub Good : State → Type 0
Good s = Ordered s.run.settings.n s

-- what the work goes on in: a call may find counts of n, and each insertion since may have added one
abbrev pub Workable : State → Type 0
Workable s = Ordered (s.run.settings.n + s.run.phase) s
