-- Names of std, of the crates below and of specs/, from modules that several of the proofs cite.
pub use Rattle.std.proofs.Common.{All, Bool, Bor, IsTrue, List, Option, [], ap, append-nil, append_assoc, arith, codes, decimal, drop, false}
pub use Rattle.std.proofs.Common.{flat_map, get_or, if◌then◌else◌, inl, inr, length, length-append, length-set, length-take-le, map}
pub use Rattle.std.proofs.Common.{nat_eq, nat_lt, refl, slice_index_or, slice_set, subst, sym, take, take_all, true, ℕ, ◌&&◌, ◌++◌, ◌+◌, ◌-◌}
pub use Rattle.std.proofs.Common.{◌*◌, ◌<◌, ◌∙◌, ◌∷◌, ◌≡◌, ◌≤◌, ◌⊎◌, ◌||◌}
pub use Rattle.std.proofs.Common.{Err, Ok, Result, take-append-drop, take-take}
pub use Rattle.std.proofs.Math.Seq.{drop-append-add, take-append-add, take-append_seam}
pub use Rattle.std.proofs.lemmas.List.Elements.{All-cons, All-from_recursion, All-head, All-nil, All-tail}
pub use Rattle.std.proofs.lemmas.List.{take_more}
pub use Rattle.std.specs.List.{join_with_byte}
pub use Rattle.cif_columns.proofs.Names.{Appends-nil, ArePrintable, HasFailed, HasWritten, IsPrintable, Writes, common_steps, false≢true}
pub use Rattle.cif_columns.proofs.Names.{flat_map-append, sink_failed, writer_of}
pub use Rattle.cif_columns.proofs.WrittenTexts.{failed_first, failed_second, written_both, written_nothing}
pub use Rattle.cif_rows.specs.{Adds.Adds, Appended.IsAppended}
pub use Rattle.cif_rows.specs.Row.{Field, cell, century, escape, heading_text, is_escaped, member, padded, quoted, row_text, text_value, trimmed}
pub use Rattle.cif_rows.specs.Row.{value_text, without_last}
pub use Rattle.cif_rows.specs.Steps.{IsOfShape, closing, field_text, fields_text, name_text, names_text, opening, width_of}
pub use Rattle.cif_rows.specs.declared.{format.Format.Format, shape.Padding.Padding, shape.Shape.Shape}
pub use Rattle.cif_rows.specs.declared.format.Format.TheVariants.{Json, Text, Tsv}
pub use Rattle.cif_columns.specs.declared.sink.Sink.{Sink}
pub use Rattle.cif_rows.specs.Steps.{IsPlain, names_ended}
unfoldable pub use Rattle.cif_rows.specs.Row.{long_date}
pub use Rattle.std.proofs.Common.{not}
pub use Rattle.std.proofs.lemmas.List.Elements.{All-append, All-take}
pub use Rattle.std.proofs.lemmas.Fmt.{decimal_digit}
pub use Rattle.cif_rows.specs.declared.shape.{Padding.TheVariants.Apart, Shape.TheVariants.Number}
pub use Rattle.std.proofs.Common.{leb-true, nat_le, suc, zero}
pub use Rattle.cif_rows.specs.{Row.absent, Row.hidden, Row.named, Row.nothing, Steps.are_short, Steps.texts}
