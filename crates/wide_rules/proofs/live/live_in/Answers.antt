use Rattle.std.proofs.Common.{[], None}
use Rattle.std.proofs.lemmas.Result.{IfOk-weaker}
use Rattle.tuple_text.specs.Refs.{set_value}
use Rattle.tuple_text.specs.Sets.{SetValue}
use Rattle.rewrites.specs.Parts.{computed_names}
use Rattle.snapshots.specs.Snapshots.{rules_in}
use Rattle.wide_rules.specs.Declaring.{DeclaresNone}
use Rattle.wide_rules.proofs.LiveLemmas.{live_declaring, live_nowhere}
use Rattle.judgement.proofs.PassLemmas.{each_by_sets}
use Rattle.wide_rules.proofs.live.live_in.Goals as goal

pub returns-then-are_quiet : goal.returns-then-are_quiet
returns-then-are_quiet c =
    let s = c.args.snapshot.now in
    let set = set_value c.args.set.set in
    let names = computed_names c.args.through.now in
    let both = each_by_sets s.timeline.commits s.at set c.usersets-sets.result c.usersets-sets.ensures.stored (record { yes = []; no = [] }) None 0
    (λ (g : SetValue). DeclaresNone (rules_in s) names g.namespace) in
    rw c.new.ensures.items (live_nowhere s set names c.requires.few (both.0 (c.are_quiet.ensures c.if-are_quiet.true)))

pub returns : goal.returns
returns c =
    IfOk-weaker c.from_slice.result _ _
    (λ v is. rw is (live_declaring c.args.snapshot.now (set_value c.args.set.set)
    (computed_names c.args.through.now) c.args.declaring.now c.fits.ensures c.requires)) c.from_slice.ensures.items
