-- Tokens and their texts. A text is the list of its bytes.
use Rattle.std.specs.Prelude.{ℕ, ◌-◌, ◌∷◌, ◌++◌, List, [], length, Option, Some, None, codes, replicate}
use Rattle.std.specs.Int.{w64, to_be_bytes}
use Rattle.hex.specs.Hex.{encode_lower}
use Rattle.zookie.specs.declared.token.TokenKind.{TokenKind}
use Rattle.zookie.specs.declared.token.TokenKind.TheVariants.{AclWrite, ContentVersion, ReadSnapshot}

-- a zookie as contracts see it: version 1 has no kind
pub record Token : Type 0 where
  pub kind : Option TokenKind
  pub at : ℕ

abbrev pub kind_text : TokenKind → List ℕ
kind_text AclWrite = codes "w"
kind_text ContentVersion = codes "c"
kind_text ReadSnapshot = codes "r"

-- what stands before the digits
abbrev pub front : Option TokenKind → List ℕ
front None = codes "z1-"
front (Some kind) = codes "z2-" ++ kind_text kind

-- sixteen digits `0-9a-f`, the most significant first
abbrev pub sixteen_digits : ℕ → List ℕ
sixteen_digits n = encode_lower (to_be_bytes w64 n)

abbrev pub token_text : Token → List ℕ
token_text t = front t.kind ++ sixteen_digits t.at
