-- Of which namespaces something is stored in a userset, by the index.
use Rattle.std.proofs.Common.{◌<◌, ◌^◌, None, Some, ap}
use Rattle.std.specs.Prelude.{IfSome, Option}
use Rattle.tuple_text.specs.Sets.{SetValue}
use Rattle.tuple_text.specs.Tuples.{TupleValue, tuple_of}
use Rattle.tuple_text.specs.declared.users.User.TheVariants.{Set}
use Rattle.version_chains.proofs.StoreLemmas.{store_at-iff}
use Rattle.userset_index.specs.Index.{AreNamespaces, IndexValue, IsUsersetIndex}
use Rattle.namespaces.specs.declared.number_set.Numbers.{Numbers}
use Rattle.userset_index.proofs.CallerLemmas.{stored_by_touch}
use Rattle.snapshots.specs.declared.snapshot.Snapshot.{Snapshot}
use Rattle.judgement.specs.StoredIn.{HaveStored}

pub have_stored : (s : Snapshot) (set : SetValue) (v : IndexValue) (numbers : Numbers) → s.at < 2 ^ 64
    → IsUsersetIndex s.timeline.declarations s.timeline.commits v → AreNamespaces v set s.at numbers → HaveStored s set numbers
have_stored s set v numbers small index told n g stored place =
    let commits = s.timeline.commits in
    let w = stored_by_touch commits s.at (tuple_of set (Set g)) ((store_at-iff commits s.at (tuple_of set (Set g))).0 stored) in
    told s.timeline.declarations commits w.0 n w.1 g index w.2 (ap (λ (t : TupleValue). t.set) w.3) (ap (λ (t : TupleValue). t.user) w.3) small place

pub some_weaker : {X : Type 0} {P Q : X → Type 0} (o : Option X) → ((x : X) → P x → Q x) → IfSome o P → IfSome o Q
some_weaker None f h = h
some_weaker (Some x) f h = f x h
