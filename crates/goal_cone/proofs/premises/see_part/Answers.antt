use Rattle.goal_cone.proofs.premises.see_part.Goals as goal

pub returns-in-Leaf : goal.returns-in-Leaf
returns-in-Leaf c = rw c.in-Leaf.is c.see_premises.ensures

pub returns-in-Through : goal.returns-in-Through
returns-in-Through c = rw c.in-Through.is c.see_through.ensures
