-- Boards of extracts that say the same are the same.
use Rattle.std.specs.Prelude.{List, None, Option, Some, ℕ}
use Rattle.std.proofs.Common.{inl, inr, subst}
use Rattle.std.proofs.lemmas.List.Elements.{All-weaker}
use Rattle.cif_canon.proofs.SameExtracts.{one-window, same-sym}
use Rattle.cif_canon.specs.{Accepted.IsClearExtract, Meaning.SameMeaning}
use Rattle.cif_extract.specs.ExtractParts.{ExtractParts}
use Rattle.cif_rows.specs.declared.format.Format.{Format}
use Rattle.cif_weeks.specs.Window.{IsWithin, Window}
use Rattle.cif_views.specs.Boards.{IsBoard, IsBoardRow, IsCallingAt, IsGoal}
use Rattle.cif_views.specs.Places.{IsNamed}
use Rattle.cif_views.specs.declared.board.{Board.Board, BoardRow.BoardRow, CallingAt.CallingAt}
use Rattle.cif_views.specs.declared.{places.Place.Place, public_stop.PublicStop.PublicStop}

module _ (x y : ExtractParts) (same : SameMeaning x y) where
  named-same : (place : Place) (location : List ℕ) → IsNamed x.tiplocs place location → IsNamed y.tiplocs place location
  named-same place location (inl own) = inl own
  named-same place location (inr code) = inr (record {
    it = code.it;
    listed = (same.agree.tiplocs code.it).0 code.listed;
    code = code.code;
    own = code.own;
  })

  goal-same : (goal : Place) (stop : PublicStop) → IsGoal x goal stop → IsGoal y goal stop
  goal-same goal stop is = record { at = named-same goal stop.location is.at; riders = is.riders }

module _ (x y : ExtractParts) (same : SameMeaning x y) where
  calling-same : (goal : Option Place) (train_date : ℕ) (later : List PublicStop) (calling : CallingAt)
      → IsCallingAt x goal train_date later calling → IsCallingAt y goal train_date later calling
  calling-same None train_date later calling is = is
  calling-same (Some goal) train_date later calling is = record {
    passed = is.passed;
    stop = is.stop;
    after = is.after;
    split = is.split;
    none_before = All-weaker (λ s. ¬ IsGoal x goal s) (λ s. ¬ IsGoal y goal s)
        (λ s none is_goal. none (goal-same y x (same-sym x y same) goal s is_goal)) is.passed is.none_before;
    is_goal = goal-same x y same goal is.stop is.is_goal;
    location = is.location;
    date = is.date;
    time = is.time;
  }

  row-same : (board : Board) (row : BoardRow) → IsBoardRow x board row → IsBoardRow y board row
  row-same board row is = record {
    within = subst (λ (w : Window). IsWithin w row.key.train_date) (one-window x y same) is.within;
    body = is.body;
    runs = (same.agree.schedules.same row.key.uid row.key.train_date (Some is.body) is.within.from is.within.upto).0 is.runs;
    earlier = is.earlier;
    stop = is.stop;
    later = is.later;
    calls = is.calls;
    at = named-same x y same board.place is.stop.location is.at;
    riders = is.riders;
    on_date = is.on_date;
    time = is.time;
    call = is.call;
    location = is.location;
    platform = is.platform;
    train = is.train;
    calling_at = calling-same board.calling_at row.key.train_date is.later row.calling_at is.calling_at;
  }

pub board-same : (x y : ExtractParts) (same : SameMeaning x y) (clear : IsClearExtract y) (format : Format) (board : Board)
    (text : List ℕ) → IsBoard format x board text → IsBoard format y board text
board-same x y same clear format board text is = record {
  within = subst (λ (w : Window). IsWithin w board.day) (one-window x y same) is.within;
  clear = clear;
  tiplocs = is.tiplocs;
  are_tiplocs = record {
    rising = is.are_tiplocs.rising;
    members = λ t. (
      λ has. (is.are_tiplocs.members t).0 ((same.agree.tiplocs t).1 has),
      λ has. (same.agree.tiplocs t).0 ((is.are_tiplocs.members t).1 has),
    );
  };
  rows = is.rows;
  are_rows = record {
    rising = is.are_rows.rising;
    are = λ r. (
      λ has. row-same x y same board r ((is.are_rows.are r).0 has),
      λ row. (is.are_rows.are r).1 (row-same y x (same-sym x y same) board r row),
    );
  };
  text_is = is.text_is;
}
