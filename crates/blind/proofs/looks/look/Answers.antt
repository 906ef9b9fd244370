-- `blind::looks::look` meets its contract: by `k-some`, `k-below`, `sees-tree`, `sees-exact`, `kept-untouched`.
use mathlib.Core.Path.{sym, ◌∙◌}
use Rattle.affinity.proofs.Listed.{k-some, k-below}
use Rattle.blind.proofs.Laws.{sees-tree, sees-exact, kept-untouched}
use Rattle.blind.proofs.looks.look.Goals as goal

pub neighbours-k-requires : goal.neighbours-k-requires
neighbours-k-requires c =
    (c.requires.sight_room.perplexity-above, c.requires.sight_room.perplexity-below, c.requires.sight_room.n-most)

pub look_near-requires : goal.look_near-requires
look_near-requires c =
    record {
      i_lt_n = (
        c.requires.i_lt_n.0,
        c.requires.sight_room.n-most,
        k-some _ _ _ c.neighbours-k.ensures,
        k-below _ _ _ c.neighbours-k.ensures
            c.requires.sight_room.n-some,
        c.requires.sight_room.table-in,
        c.requires.sight_room.squares-in,
      );
      n_in_bounds = (c.requires.sight_room.values-in, c.requires.sight_room.shares-in, c.requires.sight_room.places-in);
      squared = c.requires.i_lt_n.1;
    }

pub returns-then-is_tree : goal.returns-then-is_tree
returns-then-is_tree c =
    record { blind_value = sees-tree _ _ _ c.neighbours-k.ensures (sym c.is_tree.ensures ∙ c.if-is_tree.true) c.look_near.ensures.blind_value; kept_past = c.look_near.ensures.kept_past }

pub look_all-requires : goal.look_all-requires
look_all-requires c =
    record {
      i_lt_n = (c.requires.i_lt_n.0, c.requires.sight_room.n-most, c.requires.sight_room.table-in, c.requires.sight_room.squares-in);
      n_in_bounds =
          (c.requires.sight_room.values-in, c.requires.sight_room.shares-in);
      squared = c.requires.i_lt_n.1;
    }

pub returns : goal.returns
returns c =
    record {
      blind_value = sees-exact _ _ _ (sym c.is_tree.ensures ∙ c.if-is_tree.false) c.look_all.ensures.blind_value;
      kept_past =
          (c.look_all.ensures.kept_past.0, c.look_all.ensures.kept_past.1, kept-untouched);
    }
