-- What a borrowed fact stands for.
use Rattle.tuple_text.specs.Refs.{set_value}
use Rattle.tuple_text.specs.Tuples.{FactValue, fact_of}
use Rattle.tuple_text.specs.declared.fact_refs.FactRef.{FactRef}

abbrev pub fact_value : FactRef → FactValue
fact_value f = fact_of (set_value f.set) f.user
