use Rattle.std.proofs.Common.{◌≡◌, ◌∷◌, ◌++◌, [], refl}
use Rattle.wide_rules.specs.declared.paths.Path.{Path}
use Rattle.wide_rules.proofs.AskedLemmas.{one_path_more}
use Rattle.wide_rules.proofs.paths.Paths.keep.Goals as goal

pub returns : goal.returns
returns c = λ q e right follows.
    let path : Path = record { asked = c.in_ok-copy.copy; is_given = c.args.is_given; answer = c.args.answer } in
    let is : c.lead.new.self ≡ c.args.self.now ++ path ∷ [] = rw (c.lead.ensures, c.in_ok-push.ensures.items, c.self.view_is) refl in
    rw is (one_path_more q e c.args.self.now path right (rw c.in_ok-copy.ensures.items follows))
