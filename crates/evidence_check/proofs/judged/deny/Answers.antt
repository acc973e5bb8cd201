use Rattle.std.proofs.Common.{rules, ◌≡◌, ◌∷◌, ◌++◌, [], map, sym, subst, ◌∙◌, ap}
use Rattle.std.specs.Prelude.{Contains}
use Rattle.std.proofs.lemmas.List.{map_push}
use Rattle.judgement.specs.Facts.{marked_fact}
use Rattle.evidence_check.specs.Growing.{AreFresh}
use Rattle.evidence_check.proofs.Growing.{denied_again, denied_anew}
use Rattle.evidence_check.proofs.judged.deny.Goals as goal

pub returns-in_ok-push-clause-fresh : goal.returns-in_ok-push-clause-fresh
returns-in_ok-push-clause-fresh c = λ before are.
    let denied : c.deny.new.self.no ≡ c.args.known.now.no ++ marked_fact c.args.fact ∷ [] = search rules in
    let items : c.push.new.self.items ≡ c.args.fresh.now.items ++ c.args.fact ∷ [] = search rules in
    let last : map marked_fact c.push.new.self.items ≡ map marked_fact c.args.fresh.now.items ++ marked_fact c.args.fact ∷ [] =
    ap (map marked_fact) items ∙ map_push marked_fact c.args.fresh.now.items c.args.fact in
    rw denied
    (subst (AreFresh before (c.args.known.now.no ++ marked_fact c.args.fact ∷ [])) (sym last)
    (denied_anew before c.args.known.now.no (map marked_fact c.args.fresh.now.items) (marked_fact c.args.fact) are))

pub returns-else-not-was_denied-clause-fresh : goal.returns-else-not-was_denied-clause-fresh
returns-else-not-was_denied-clause-fresh c = λ before are.
    let denied : c.deny.new.self.no ≡ c.args.known.now.no ++ marked_fact c.args.fact ∷ [] = search rules in
    let known : Contains c.args.known.now.no (marked_fact c.args.fact) = search rules in
    rw denied (denied_again before c.args.known.now.no (map marked_fact c.args.fresh.now.items) (marked_fact c.args.fact) are known)
