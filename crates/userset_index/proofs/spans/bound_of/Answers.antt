use Rattle.std.proofs.Common.{◌≡◌, ◌-◌, ◌≤◌, suc, arith, rules}
use Rattle.marks.proofs.PlacedLemmas.{read_item}
use Rattle.userset_index.proofs.EndedLemmas.{bounds_alone, bounds_joined, older_place}
use Rattle.userset_index.proofs.spans.bound_of.Goals as goal

pub returns-then-span-older : goal.returns-then-span-older
returns-then-span-older c =
    let spans = c.args.spans.now in
    let i = c.args.index in
    let s = c.in_ok-span.span.now in
    let read = read_item spans spans i s (λ n. spans) c.in_ok-span.ensures.lookup.3.0 c.in_ok-span.ensures.lookup.1 in
    bounds_alone spans c.requires.bounded i s read c.older-older.result
    (older_place spans c.args.links.now i s read c.older-older.result c.requires.linked (c.older-older.ensures s.mark))
    c.if-span-older.true

pub returns-then-far-span : goal.returns-then-far-span
returns-then-far-span c =
    let spans = c.args.spans.now in
    let i = c.args.index in
    let s = c.in_ok-span.span.now in
    let near = c.in_ok-near.near.now in
    let far = c.in_ok-far.far.now in
    let older = c.older-older.result in
    let some = c.if-older-eq0.false in
    let read = read_item spans spans i s (λ n. spans) c.in_ok-span.ensures.lookup.3.0 c.in_ok-span.ensures.lookup.1 in
    let read_near = read_item spans spans (older - 1) near (λ n. spans) c.in_ok-near.ensures.lookup.3.0 c.in_ok-near.ensures.lookup.1 in
    let own : s.until ≤ c.max-then-far-span.result = search rules in
    let nears : near.last ≤ c.max-then-far-span.result = search rules in
    let fars : far.last ≤ c.max-then-far-span.result = search rules in
    bounds_joined spans c.requires.bounded i s read older
    (older_place spans c.args.links.now i s read older c.requires.linked (c.older-older.ensures s.mark))
    near far (older - 1, (let e : older ≡ suc (older - 1) = omega (arith, some) in e), read_near) c.in_ok-far.ensures c.if-far-span.true
    c.max-then-far-span.result (own, nears, fars)
