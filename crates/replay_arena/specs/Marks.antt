-- The marks of an arena that nothing has touched, and when one arena is another. Definitions only.
use Rattle.std.specs.Prelude.{ℕ, ◌+◌, ◌*◌, ◌%◌, ◌^◌, Bool, ◌&&◌, List, [], ◌∷◌, Float, from_bits, to_bits, nat_eq, slice_index_or, slice_set}
use Rattle.std.specs.Float.{binary64}
use Rattle.laws.specs.Loops.{every}
use Rattle.laws.specs.Area.{at}
use Rattle.tree_node.specs.declared.Cell.{Cell}

-- where a value is to be, at place i
abbrev pub real_mark : ℕ → Float
real_mark i = from_bits binary64 ((0x4000000000000000 + i) % 2 ^ 64)

-- three values from place a on
abbrev pub three_marks : ℕ → List Float
three_marks a = real_mark a ∷ real_mark (a + 1) ∷ real_mark (a + 2) ∷ []

-- cell i: its nine values and three numbers have the places from 12 i on
abbrev pub marked_cell : ℕ → Cell
marked_cell i =
    let a = 12 * i in
    record {
      centre = three_marks a;
      half = three_marks (a + 3);
      mass = three_marks (a + 6);
      count = 0x40000000 + (a + 9);
      first = 0x40000000 + (a + 10);
      leaf = 0x40000000 + (a + 11);
    }

-- cell i of an arena is marked
abbrev pub mark_step : ℕ → List Cell → List Cell
mark_step i cs = slice_set cs i (marked_cell i)

-- one value is the other, bit by bit
abbrev pub real_stands : Float → Float → Bool
real_stands x y = nat_eq (to_bits binary64 x) (to_bits binary64 y)

-- three values are three others
abbrev pub reals_stand : List Float → List Float → Bool
reals_stand a b = real_stands (at a 0) (at b 0) && real_stands (at a 1) (at b 1) && real_stands (at a 2) (at b 2)

-- every field of one cell is that of the other
abbrev pub cell_stands : Cell → Cell → Bool
cell_stands a b =
    reals_stand a.centre b.centre && reals_stand a.half b.half && reals_stand a.mass b.mass
    && nat_eq a.count b.count && nat_eq a.first b.first && nat_eq a.leaf b.leaf

-- what is read past an arena's end
abbrev pub no_cell : Cell
no_cell = record { centre = []; half = []; mass = []; count = 0; first = 0; leaf = 0 }

-- one arena is the other, in all its cells
abbrev pub cells_stand : List Cell → List Cell → Bool
cells_stand a b = every (λ i. cell_stands (slice_index_or a i no_cell) (slice_index_or b i no_cell)) 512
