use Rattle.std.proofs.Common.{◌≤◌, rules}
use Rattle.userset_index.proofs.SpanLemmas.{bounded_alone, bounded_joined}
use Rattle.userset_index.proofs.spans.span_behind.Goals as goal

pub returns-in_default-clause-bounded : goal.returns-in_default-clause-bounded
returns-in_default-clause-bounded c = bounded_alone c.args.spans.now c.args.life c.args.older c.requires.older

pub returns-in_default-far_behind-clause-bounded : goal.returns-in_default-far_behind-clause-bounded
returns-in_default-far_behind-clause-bounded c = bounded_alone c.args.spans.now c.args.life c.args.older c.requires.older

pub returns-clause-bounded : goal.returns-clause-bounded
returns-clause-bounded c =
    let near = c.in-Some.near.now in
    let far = c.in-Some-far_behind.far.now in
    let first_own : c.min-2.result ≤ c.args.life.from = search rules in
    let first_near : c.min-2.result ≤ near.first = search rules in
    let first_far : c.min-2.result ≤ far.first = search rules in
    let last_own : c.args.life.until ≤ c.max-2.result = search rules in
    let last_near : near.last ≤ c.max-2.result = search rules in
    let last_far : far.last ≤ c.max-2.result = search rules in
    bounded_joined c.args.spans.now c.args.life c.args.older c.requires.older c.requires.bounded near far c.in-Some.ensures c.in-Some-far_behind.ensures
    c.min-2.result c.max-2.result (first_own, first_near, first_far) (last_own, last_near, last_far)
