use Rattle.zookie.proofs.Spellings.{token_found, token_only, token_exact}
use Rattle.zookie.proofs.token.Zookie.parse.Goals as goal

pub returns-clause-found : goal.returns-clause-found
returns-clause-found c = token_found c.args.text.now c.read.result (rw c.as_bytes.ensures.value at c.read.ensures.spells)

pub returns-clause-only : goal.returns-clause-only
returns-clause-only c = token_only c.args.text.now c.read.result (rw c.as_bytes.ensures.value at c.read.ensures.spells) c.read.ensures.fits

pub returns-clause-exact : goal.returns-clause-exact
returns-clause-exact c = token_exact c.args.text.now c.read.result (rw c.as_bytes.ensures.value at c.read.ensures.spells) c.read.ensures.fits
