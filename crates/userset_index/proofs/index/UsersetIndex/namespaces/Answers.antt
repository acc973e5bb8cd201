use Rattle.std.proofs.Common.{◌≡◌, ◌∙◌, ℕ, true, sym, ap, subst, rules}
use Rattle.marks.specs.Marks.{set_mark}
use Rattle.userset_index.specs.Index.{IndexValue, IsCovered}
use Rattle.userset_index.proofs.index.UsersetIndex.namespaces.Goals as goal

pub returns-then-self-2 : goal.returns-then-self-2
returns-then-self-2 c ds commits i n x g index last set user small place =
    let whole : c.args.self.now.is_whole ≡ true = search rules in
    let timed : c.args.self.now.is_timed ≡ true = search rules in
    let v = c.args.self.now in
    let mark : set_mark x.tuple.set ≡ c.args.set.mark = ap set_mark set ∙ sym c.args.set.is_its_mark in
    let covered : IsCovered v.moments v.numbers c.args.set.mark n c.args.at =
    subst (λ (m : ℕ). IsCovered v.moments v.numbers m n c.args.at) mark ((index whole).timed timed i c.args.at n x g last user small place) in
    c.at.ensures n (subst (λ (w : IndexValue). IsCovered w.moments w.numbers c.args.set.mark n c.args.at) (sym c.self.view_is) covered)
