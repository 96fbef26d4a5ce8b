-- Names of std, of the crates below and of specs/, from modules that several of the proofs cite.
pub use Rattle.std.proofs.Common.{Bool, Err, IfSome, List, None, Ok, Option, Result, Some, [], ap, append-nil, append_assoc, arith, codes}
pub use Rattle.std.proofs.Common.{cond, drop, drop-drop, drop-set-lt, drop_at, ext_get_or, false, find, get_or, get_or-append-add, is_some}
pub use Rattle.std.proofs.Common.{length, length-append, length-drop, length-set, length-take, length-take-le, lit<, lit≤, nat_eq, nat_le}
pub use Rattle.std.proofs.Common.{refl, replicate, set, subst, sym, take, take-append-drop, take-take, take_all, take_at, true, ℕ, ◌&&◌}
pub use Rattle.std.proofs.Common.{◌++◌, ◌+◌, ◌-◌, ◌<◌, ◌∙◌, ◌∷◌, ◌≡◌, ◌≤◌}
pub use Rattle.std.proofs.{Props.props, lemmas.List.drop-set, lemmas.List.drop_all, lemmas.List.take-set-le}
pub use Rattle.cif_columns.proofs.{DayColumns.stands-ddmmyy_in, DayColumns.yymmdd_in-stands, Masks.days_of-stands, Parts.stands-back}
pub use Rattle.cif_columns.proofs.{Parts.stands-front, Parts.stands-plain_line, PlainLines.length-columns, PlainLines.line-plain_line}
pub use Rattle.cif_columns.proofs.{PrintableBytes.printable_fact, Times.public_time_in-stands, Times.work_time_in-stands}
pub use Rattle.cif_columns.proofs.FieldLaws.{one_date_value, one_exactly, one_indicator, one_text_value, one_weekdays, stp_in-letter}
unfoldable pub use Rattle.cif_columns.proofs.{Names.day_number, Names.yymmdd_in, TableLaws.all_read}
pub use Rattle.cif_columns.proofs.Names.{All-append, All-drop, All-take, AllFit, AllStandIn, ArePrintable, FieldValue, IsDay, IsLine}
pub use Rattle.cif_columns.proofs.Names.{IsPlainLineOf, IsPrintable, Row, StandsInYymmdd, and_parts, bytes_decides, columns, date}
pub use Rattle.cif_columns.proofs.Names.{ddmmyy_in, ddmmyy_of, drop-take, exactly, false_from_ne_true, flat_map-append, get_or_append_left}
pub use Rattle.cif_columns.proofs.Names.{indicator, is_whole_from, nat_tests, plain_columns, plain_line, pointwise, spare, take-append_seam}
pub use Rattle.cif_columns.proofs.Names.{text, text_of, weekdays, width_of}
pub use Rattle.cif_columns.proofs.Parts.{fits-append, fits-front, length-plain_line, plain_line-append, put_all-plain_line, stands-append}
pub use Rattle.cif_columns.proofs.TableLaws.{all_read-stands, codes_value, columns_in, one_table}
pub use Rattle.cif_columns.specs.{Field.StandsIn, Field.row, LineBuilder.put, LineBuilder.put_all}
pub use Rattle.cif_columns.specs.declared.{refusal.Refusal.Refusal, stp.Stp.Stp, stp.Stp.TheVariants.C, stp.Stp.TheVariants.P}
unfoldable pub use Rattle.cif_records.specs.{Association.association_refusal, Basic.basic_refusal, Change.change_refusal}
unfoldable pub use Rattle.cif_records.specs.{Extra.extra_refusal, Header.header_refusal_by, Origin.origin_refusal, Record.record_refusal}
unfoldable pub use Rattle.cif_records.specs.{Stop.stop_refusal, Terminus.terminus_refusal, Tiploc.tiploc_refusal}
pub use Rattle.cif_records.specs.Association.{SpellsAssociation, SpellsBody, SpellsKey, association_rows, association_rows_by, rows_on}
pub use Rattle.cif_records.specs.Basic.{SpellsBasic, SpellsTerms, basic_back, basic_front, basic_front_by, basic_rows, basic_table}
pub use Rattle.cif_records.specs.{Bodies.has_body, Change.SpellsChange, Change.change_in, Change.change_table, Extra.SpellsExtra}
pub use Rattle.cif_records.specs.{Extra.extra_in, Extra.extra_table, Header.header_rows_by, Header.header_table, HeaderColumns.IsFull}
pub use Rattle.cif_records.specs.{HeaderColumns.kept, HeaderColumns.with_window, Kind.is_identity, Kind.kind_in, Kind.kinds}
pub use Rattle.cif_records.specs.{Origin.SpellsOrigin, Origin.origin_in, Origin.origin_table, Stop.SpellsStop, Stop.stop_in}
pub use Rattle.cif_records.specs.{Stop.stop_table, Terminus.SpellsTerminus, Terminus.terminus_in, Terminus.terminus_table}
pub use Rattle.cif_records.specs.{Tiploc.SpellsTiploc, Tiploc.tiploc_table, declared.association.AssocBody.AssocBody}
pub use Rattle.cif_records.specs.{declared.association.AssocKey.AssocKey, declared.association.Association.Association}
pub use Rattle.cif_records.specs.{declared.basic.Basic.Basic, declared.basic.BasicTerms.BasicTerms, declared.change.Change.Change}
pub use Rattle.cif_records.specs.{declared.detail.Detail.Detail, declared.extra.Extra.Extra, declared.header.Header.Header}
pub use Rattle.cif_records.specs.{declared.origin.Origin.Origin, declared.record.Kind.Kind, declared.record.Record.Record}
pub use Rattle.cif_records.specs.{declared.stop.Stop.Stop, declared.terminus.Terminus.Terminus, declared.tiploc.Tiploc.Tiploc}
pub use Rattle.cif_records.specs.Checks.{IsJudged, are, dates_refusal, last_date_refusal}
pub use Rattle.cif_records.specs.Detail.{alone_in, detail_in, detail_rows, detail_table}
pub use Rattle.cif_records.specs.Record.{IsPlainOf, SpellsRecord, record_table, refusal_as}
pub use Rattle.cif_records.specs.declared.record.Kind.TheVariants.{Aa, Bs, Bx, Cr, Hd, Li, Lo, Lt, Ti, Zz}
