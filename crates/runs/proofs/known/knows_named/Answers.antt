use Rattle.std.proofs.Common.{◌≡◌, ◌==◌, ◌∙◌, ℕ, not, false, sym, ap, arith}
use Rattle.std.proofs.lemmas.Bool.{ne_eqb}
use Rattle.trace_lines.specs.EntryViews.{entry_value}
use Rattle.carry_laws.specs.Asked.{knows_named}
use Rattle.carry_laws.proofs.AskLemmas.{knows_all}
use Rattle.runs.proofs.KnownLemmas.{knows_by_issuer, knows_by_none, named_some}
use Rattle.runs.proofs.known.knows_named.Goals as goal

pub returns-then-from-eq0 : goal.returns-then-from-eq0
returns-then-from-eq0 c e at =
    let none = c.if-from-eq0.true in
    let zero : c.args.from ≡ 0 = omega (arith, none) in
    sym (ap (λ (f : ℕ). knows_named f c.args.log.now.entries e) zero ∙ knows_all c.args.log.now.entries e)

pub returns-in-Some : goal.returns-in-Some
returns-in-Some c e at =
    let some : (c.args.from == 0) ≡ false = ne_eqb c.args.from 0 (λ same. let apart = c.if-from-eq0.false in apart same) in
    sym (knows_by_issuer c.args.log.now c.entries_rise.ensures c.args.from c.args.i e at some c.versions_issued_once.ensures
    c.in-Some.issuer (entry_value c.entry.result) (sym c.content_of.ensures.value ∙ c.in-Some.is) c.entry.ensures.value)

pub returns-in-None : goal.returns-in-None
returns-in-None c e at =
    let some : (c.args.from == 0) ≡ false = ne_eqb c.args.from 0 (λ same. let apart = c.if-from-eq0.false in apart same) in
    ap not (c.names_some.ensures e at)
    ∙ sym (knows_by_none c.args.log.now c.entries_rise.ensures c.args.from c.args.i e at some
    (sym c.content_of.ensures.value ∙ c.in-None.is)
    ∙ ap not (named_some e.goal.set e.kind e.version))
