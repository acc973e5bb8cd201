use Rattle.std.proofs.Common.{rules, ◌≡◌, ◌++◌, ◌∷◌, [], suc, subst, sym, ap, ◌∙◌, List, Some, ℕ, length, ◌<◌}
use Rattle.std.specs.Prelude.{slice_get}
use Rattle.version_chains.specs.Arena.{Held, AreUpTo, latest_of, tuples_of}
use Rattle.version_chains.specs.Jumps.{AreJumps, IsBack}
use Rattle.version_chains.specs.Rows.{Kept}
use Rattle.version_chains.specs.declared.node.Node.{Node}
use Rattle.version_chains.proofs.ArenaLemmas.{item_of, item_within, more_touches, touches-more, up_to_nodes}
use Rattle.marks.proofs.PlacedLemmas.{length-more}
use Rattle.version_chains.proofs.RowLemmas.{latest-touched, length-touched, row-kept, tuples-touched}
use Rattle.version_chains.proofs.arena.Arena.push.Goals as goal

abbrev Goes : List Node → ℕ → ℕ → Type 0
Goes ns older jump = (older ≡ 0 → jump ≡ suc (length ns)) × (AreJumps ns → (i : ℕ) (m : Node) → older ≡ suc i → slice_get ns i ≡ Some m → IsBack ns m.tuple i jump)

-- what is kept of the tuple
found : (rows : List Kept) (i : ℕ) → i < length (tuples_of rows) → (r : Kept) × (slice_get rows i ≡ Some r)
found rows i known =
    let there = item_within (tuples_of rows) i known in
    let kept = row-kept rows i there.0 there.1 in
    (kept.0, kept.1)

pub invariant_of-self : goal.invariant_of-self
invariant_of-self c =
    let node : Node = record { at = c.args.at; tuple = c.args.number; older = c.latest-older.result; jump = c.next_links-links.result.jump; depth = c.next_links-links.result.depth; rank = c.next_links-links.result.rank; live = c.args.live } in
    let items : c.push_reserved.new.self.items ≡ c.self.inside.nodes.items ++ node ∷ [] = search rules in
    let len : c.len-place.result ≡ length c.push_reserved.new.self.items = search rules in
    let more = length-more c.self.inside.nodes.items node in
    let count : c.len-place.result ≡ suc (length c.self.inside.nodes.items) = rw (len, items) more in
    let known : c.args.number < length (tuples_of c.self.inside.rows) = subst (λ (h : Held). c.args.number < length h.tuples) (sym c.self.view_is) c.requires.known in
    let row = found c.self.inside.rows c.args.number known in
    let older : row.0.latest ≡ c.latest-older.result = sym (c.latest-older.ensures row.0 row.1) in
    let is = item_of (λ (r : Kept). r.latest) c.self.inside.rows c.args.number row.0 row.1 ∙ ap Some older in
    let tuples = tuples-touched c.self.inside.rows c.args.number row.0 row.1 c.len-place.result in
    let latest = latest-touched c.self.inside.rows c.args.number row.0 row.1 c.len-place.result in
    let same = length-touched c.self.inside.rows c.args.number row.0 row.1 c.len-place.result in
    let rows = c.set_latest.ensures row.0 row.1 in
    let on = subst (λ (ns : List Node). Goes ns c.latest-older.result c.next_links-links.result.jump) c.as_slice.ensures.value (c.next_links-links.ensures.first, c.next_links-links.ensures.later) in
    let late = up_to_nodes (tuples_of c.self.inside.rows) c.self.inside.nodes.items c.args.at (subst (λ (h : Held). AreUpTo c.args.at h.touches) (sym c.self.view_is) c.requires.late) in
    (rw (items, rows, tuples, latest, count) (more_touches (tuples_of c.self.inside.rows) (latest_of c.self.inside.rows) c.self.inside.named c.self.inside.held c.self.inside.nodes.items c.self.invariant.0 node known is on late), rw (rows, same) c.self.invariant.1)

pub returns-clause-tuples : goal.returns-clause-tuples
returns-clause-tuples c =
    let known : c.args.number < length (tuples_of c.self.inside.rows) = subst (λ (h : Held). c.args.number < length h.tuples) (sym c.self.view_is) c.requires.known in
    let row = found c.self.inside.rows c.args.number known in
    let tuples = tuples-touched c.self.inside.rows c.args.number row.0 row.1 c.len-place.result in
    rw (c.set_latest.ensures row.0 row.1) (tuples ∙ ap (λ (h : Held). h.tuples) c.self.view_is)

pub returns-clause-pushes : goal.returns-clause-pushes
returns-clause-pushes c t is =
    let node : Node = record { at = c.args.at; tuple = c.args.number; older = c.latest-older.result; jump = c.next_links-links.result.jump; depth = c.next_links-links.result.depth; rank = c.next_links-links.result.rank; live = c.args.live } in
    let items : c.push_reserved.new.self.items ≡ c.self.inside.nodes.items ++ node ∷ [] = search rules in
    let known : c.args.number < length (tuples_of c.self.inside.rows) = subst (λ (h : Held). c.args.number < length h.tuples) (sym c.self.view_is) c.requires.known in
    let row = found c.self.inside.rows c.args.number known in
    let tuples = tuples-touched c.self.inside.rows c.args.number row.0 row.1 c.len-place.result in
    let of : slice_get (tuples_of c.self.inside.rows) c.args.number ≡ Some t = subst (λ (h : Held). slice_get h.tuples c.args.number ≡ Some t) (sym c.self.view_is) is in
    rw (c.set_latest.ensures row.0 row.1, tuples, items) (touches-more (tuples_of c.self.inside.rows) c.self.inside.nodes.items node t of ∙ ap (λ (h : Held). h.touches ++ record { at = c.args.at; live = c.args.live; tuple = t } ∷ []) c.self.view_is)
