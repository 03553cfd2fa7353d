-- A document is what `toml` reads of bytes that are UTF-8.
use Rattle.std.proofs.Common.{◌≡◌, ℕ, List, Bool, true, false, Some, None, refl}
use Rattle.std.proofs.lemmas.Str.{IsUtf8-from_is_utf8, is_utf8-from_IsUtf8}
use Rattle.std.specs.Str.{IsUtf8, is_utf8}
use Rattle.toml.specs.Data.{Members}
use Rattle.toml.specs.Parse.{parse_document}
use Rattle.sdm_data.specs.Document.{document_of}

-- what `toml` reads of UTF-8 is the document
pub document_some : (bytes : List ℕ) (root : Members) → IsUtf8 bytes → parse_document bytes ≡ Some root →
    document_of bytes ≡ Some root
document_some bytes root text is = rw (is_utf8-from_IsUtf8 bytes text) is

-- no document where the bytes aren't UTF-8, or where `toml` reads none of them
by_utf8 : (bytes : List ℕ) (b : Bool) → is_utf8 bytes ≡ b → (IsUtf8 bytes → parse_document bytes ≡ None) →
    document_of bytes ≡ None
by_utf8 bytes true is none = rw is (none (IsUtf8-from_is_utf8 bytes is))
by_utf8 bytes false is none = rw is refl

-- so there is none where `toml` reads none of UTF-8
pub document_none : (bytes : List ℕ) → (IsUtf8 bytes → parse_document bytes ≡ None) → document_of bytes ≡ None
document_none bytes none = by_utf8 bytes (is_utf8 bytes) refl none
