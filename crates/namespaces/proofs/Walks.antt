-- Walks over a rule, child by child.
pub use Rattle.rewrites.proofs.Walks.{children_step}
