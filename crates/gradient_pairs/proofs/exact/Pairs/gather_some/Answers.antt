-- The frames take their weights from where these were laid: by the law of a row in parts.
use mathlib.Core.Path.{◌∙◌}
use Rattle.gradient_pairs.proofs.Parts.{gathered-in-parts}
use Rattle.gradient_pairs.proofs.exact.Pairs.gather_some.Goals as goal

pub returns : goal.returns
returns c =
    c.add_frames.ensures ∙ rw (c.lay_weights.ensures, c.lay_nums.ensures)
    (gathered-in-parts c.args.self.map.positions.now c.args.self.affinities.now c.args.self.exaggeration c.args.self.total c.args.self.map.n c.args.self.map.c c.args.i
    c.args.j c.args.m _ _ c.args.x c.requires.3
    c.requires.3)
