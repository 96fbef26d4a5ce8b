-- Names of cif_rows, from modules that several of the proofs cite.
pub use Rattle.cif_rows.proofs.AddedTexts.{added-all, added-both, added-is, added-waits, all-added, names-added, one-added, row-ended}
pub use Rattle.cif_rows.proofs.AddedTexts.{without_last-append}
pub use Rattle.cif_rows.proofs.LongDates.{printable-date}
pub use Rattle.cif_rows.specs.{Adds.Adds, Appended.IsAppended}
pub use Rattle.cif_rows.specs.Row.{Field, Value, all_named, cell, cell_of, heading_text, named, nothing, number, number_field, row_text, text}
pub use Rattle.cif_rows.specs.Row.{trimmed}
pub use Rattle.cif_rows.specs.Steps.{closing, field_text, fields_text, name_text, names_text, opening}
pub use Rattle.cif_rows.specs.declared.{format.Format.Format, format.Format.TheVariants.Json, format.Format.TheVariants.Tsv}
pub use Rattle.cif_rows.specs.declared.{format.Format.TheVariants.Text, shape.Padding.TheVariants.Apart, shape.Shape.Shape}
pub use Rattle.cif_rows.specs.declared.shape.Shape.TheVariants.{Date, Number, Trimmed, Whole}
pub use Rattle.cif_rows.proofs.AddedTexts.{added-after, all-written, field-added, fields-added, fields-after, row-added, some-field, three-fields}
unfoldable pub use Rattle.cif_rows.specs.Row.{long_date}
