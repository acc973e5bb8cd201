use Rattle.tuple_text.specs.Refs.{set_value}
use Rattle.tuple_text.specs.Tuples.{tuple_of}
use Rattle.tuple_text.specs.declared.users.User.TheVariants.{Id}
use Rattle.version_chains.proofs.StoreLemmas.{store_at-iff}
use Rattle.snapshots.proofs.snapshot.Snapshot.has_id.Goals as goal

pub returns : goal.returns
returns c =
    let s = c.args.self.now in
    let both = store_at-iff s.timeline.commits s.at (tuple_of (set_value c.args.set.set) (Id c.args.user)) in
    rw (c.has_id.ensures, c.chains.ensures) (both.1, both.0)
