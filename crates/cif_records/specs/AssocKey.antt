-- The order of the keys of associations.
use Rattle.std.specs.{Cmp.Lexicographic.slice_cmp, Ordering.nat_cmp, Ordering.ordering_then, declared.cmp.Ordering.Ordering}
use Rattle.cif_columns.specs.{Field.Fits, Field.text, Text.left_justified}
use Rattle.cif_records.specs.declared.association.AssocKey.{AssocKey}

-- Keys are compared by the base UID, then the associated UID, the location, the base suffix and the associated suffix: the first
-- that differs decides. UIDs and texts are compared by their bytes, which is as their written columns are: the law `order_of_keys`.
abbrev pub key_cmp : AssocKey → AssocKey → Ordering
key_cmp a b =
    ordering_then (slice_cmp nat_cmp a.base b.base)
    (ordering_then (slice_cmp nat_cmp a.associated b.associated)
    (ordering_then (slice_cmp nat_cmp a.location b.location)
    (ordering_then (slice_cmp nat_cmp a.base_suffix b.base_suffix)
    (slice_cmp nat_cmp a.associated_suffix b.associated_suffix))))

-- the same by the columns that are written, in which each text is followed by spaces
abbrev pub written_key_cmp : AssocKey → AssocKey → Ordering
written_key_cmp a b =
    ordering_then (slice_cmp nat_cmp a.base b.base)
    (ordering_then (slice_cmp nat_cmp a.associated b.associated)
    (ordering_then (slice_cmp nat_cmp (left_justified 7 a.location) (left_justified 7 b.location))
    (ordering_then (slice_cmp nat_cmp (left_justified 1 a.base_suffix) (left_justified 1 b.base_suffix))
    (slice_cmp nat_cmp (left_justified 1 a.associated_suffix) (left_justified 1 b.associated_suffix)))))

-- its texts fit their columns
pub record HasTexts (key : AssocKey) : Type 0 where
  pub location : Fits 7 (text key.location)
  pub base_suffix : Fits 1 (text key.base_suffix)
  pub associated_suffix : Fits 1 (text key.associated_suffix)
