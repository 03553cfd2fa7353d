-- What is inserted into the map of a table is put among its members.
use Rattle.std.proofs.Common.{◌≡◌, ℕ, List, [], ◌∷◌, String, Global, string_bytes, Ordering, Less, Equal, Greater}
use Rattle.std.proofs.Common.{refl, ◌∙◌}
use Rattle.std.specs.BTreeMap.{insert_entry}
use Rattle.std.specs.Ordering.{match_ordering}
use Rattle.std.specs.String.{string_cmp}
use Rattle.toml.specs.View.{view, members_view}
use Rattle.toml.specs.declared.value.Value.{Value}
use Rattle.sdm_data.specs.Tables.{put}

-- of three lists, by an order: the members of the one that it takes
by_order : (o : Ordering) (a b c : List (String Global × Value)) →
    members_view (match_ordering o a b c) ≡ match_ordering o (members_view a) (members_view b) (members_view c)
by_order Less a b c = refl
by_order Equal a b c = refl
by_order Greater a b c = refl

-- an entry that is inserted is put among the members
inserted : (entries : List (String Global × Value)) (name : String Global) (value : Value) →
    members_view (insert_entry string_cmp entries name value)
    ≡ put (string_bytes name) (view value) (members_view entries)
inserted [] name value = refl
inserted (entry ∷ more) name value = by_order (string_cmp name entry.0) _ _ _ ∙ rw (inserted more name value)

-- the same, of a name whose text is known
pub put_is : (old new : List (String Global × Value)) (key : String Global) (value : Value) (name : List ℕ) →
    new ≡ insert_entry string_cmp old key value → string_bytes key ≡ name →
    members_view new ≡ put name (view value) (members_view old)
put_is old new key value name made text = rw (made, inserted old key value, text) refl
