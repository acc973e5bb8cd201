use Rattle.std.proofs.Common.{◌∙◌, ap, sym}
use Rattle.userset_index.specs.Spans.{lives_of, marks_of}
use Rattle.userset_index.proofs.EndedLemmas.{marks_ended}
use Rattle.userset_index.proofs.spans.end_at.Goals as goal

pub loop-place-init : goal.loop-place-init
loop-place-init c = record {
  grown = record {
    linked = c.requires.linked ∙ sym (ap marks_of c.shorten.ensures.lives
        ∙ marks_ended c.args.index c.args.until (lives_of c.args.spans.now.items));
    bounded = c.shorten.ensures.bounded c.requires.bounded;
  };
  lives = c.shorten.ensures.lives;
}
