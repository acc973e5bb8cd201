-- How the texts of usersets stand one behind the other in one. No public clause cites this module.
use Rattle.std.specs.Prelude.{◌≡◌, ℕ, ◌+◌, List, ◌++◌, slice_range}
use Rattle.std.specs.Str.{IsCharBoundary, IsUtf8}
use Rattle.tuple_text.specs.Sets.{SetValue}
use Rattle.version_chains.specs.declared.texts.Span.{Span}

-- where the parts behind the first begin, and where the last ends
abbrev pub id_at : Span → ℕ
id_at p = p.at + p.namespace_len

abbrev pub relation_at : Span → ℕ
relation_at p = id_at p + p.id_len

abbrev pub end_at : Span → ℕ
end_at p = relation_at p + p.relation_len

-- the userset whose parts stand there
abbrev pub set_in : List ℕ → Span → SetValue
set_in text p = record {
  namespace = slice_range text p.at (id_at p);
  id = slice_range text (id_at p) (relation_at p);
  relation = slice_range text (relation_at p) (end_at p);
}

-- each part is a text
pub record IsSpan (text : List ℕ) (p : Span) : Type 0 where
  pub first : IsCharBoundary text p.at
  pub second : IsCharBoundary text (id_at p)
  pub third : IsCharBoundary text (relation_at p)
  pub last : IsCharBoundary text (end_at p)

-- the userset stands there
pub record IsSpanOf (text : List ℕ) (s : SetValue) (p : Span) : Type 0 where
  pub is : IsSpan text p
  pub set : set_in text p ≡ s

-- more text stands behind what stood there
pub record GoesOn (old new : List ℕ) : Type 0 where
  pub more : List ℕ
  pub is : new ≡ old ++ more
  pub utf8 : IsUtf8 more
