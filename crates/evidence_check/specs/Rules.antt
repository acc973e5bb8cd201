-- The rules by which facts are judged. No public clause cites this module.
use Rattle.std.specs.Prelude.{◌≡◌, ℕ, Bool, true, false, List, Contains, Option, None, Some, option_map}
use Rattle.std.specs.Option.{ForSome}
use Rattle.tuple_text.specs.Refs.{set_value}
use Rattle.tuple_text.specs.Sets.{SetValue}
use Rattle.tuple_text.specs.Tuples.{TupleValue, FactValue}
use Rattle.rewrites.specs.Alike.{AreAlike}
use Rattle.namespaces.specs.Declaration.{Declaration}
use Rattle.rewrites.specs.Expression.{Expression}
use Rattle.namespaces.specs.Lookup.{Lookup, expression_in, rule_at, rule_of}
use Rattle.rewrites.specs.Parts.{rule_shown}
use Rattle.rewrites.specs.View.{expression_of}
use Rattle.trace_lines.specs.Timelines.{timeline_of}
use Rattle.trace_lines.specs.Values.{TraceValue}
use Rattle.judgement.specs.Judgement.{KnownValue}
use Rattle.evidence_check.specs.Accepted.{IsProved, IsDisproved}
use Rattle.evidence_check.specs.declared.asked_rules.PlacedRule.{PlacedRule}
use Rattle.evidence_check.specs.declared.judged.RuleInForce.{RuleInForce}
use Rattle.evidence_check.specs.declared.judged.LastRule.{LastRule}
use Rattle.evidence_check.specs.declared.judged.LastRules.{LastRules}

-- what the rule of the userset's relation says that is in force at a timestamp
abbrev pub ruled : List Declaration → ℕ → SetValue → Option Expression
ruled declarations at g = option_map (λ r. r.expression) (rule_of (rule_at declarations at) g)

-- it says what that rule says, or there is neither
abbrev pub IsRuleOf : List Declaration → ℕ → SetValue → Option Expression → Type 0
IsRuleOf declarations at g e = AreAlike e (ruled declarations at g)

-- it is that rule, and a wide one stands at its place
abbrev pub IsInForce : List Declaration → ℕ → SetValue → RuleInForce → Type 0
IsInForce declarations at g RuleInForce.Undeclared = IsRuleOf declarations at g None
IsInForce declarations at g (RuleInForce.Narrow r) = IsRuleOf declarations at g (Some (expression_of r.now))
IsInForce declarations at g (RuleInForce.Wide place r) =
    IsRuleOf declarations at g (Some (rule_shown r.now)) × (expression_in place declarations ≡ ruled declarations at g)

-- it is asked over a trace, and says what the rule of the trace says that stands at its place
pub record IsPlaced (trace : TraceValue) (p : PlacedRule) : Type 0 where
  pub over : p.rule.timeline ≡ timeline_of trace
  pub says : AreAlike (Some p.rule.expression) (expression_in p.place trace.declarations)

abbrev pub ArePlaced : TraceValue → List PlacedRule → Type 0
ArePlaced trace rules = (p : PlacedRule) → Contains rules p → IsPlaced trace p

-- where there is a rule by which a fact was judged last, it is that of its userset
abbrev pub IsLast : List Declaration → ℕ → Option LastRule → Type 0
IsLast declarations at last = ForSome last (λ l. IsInForce declarations at (set_value l.set) l.rule)

abbrev pub AreLast : List Declaration → ℕ → LastRules → Type 0
AreLast declarations at last = IsLast declarations at last.given × IsLast declarations at last.denied

-- the fact is proved, or it is disproved
abbrev pub IsSettled : Lookup → List TupleValue → KnownValue → Bool → FactValue → Type 0
IsSettled rules store known true f = IsProved rules store known f
IsSettled rules store known false f = IsDisproved rules store known f
