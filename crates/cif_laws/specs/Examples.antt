-- Inputs and their canonical bytes: an association, and a published schedule with a holiday. Both have the window from Monday 4 to
-- Wednesday 6 January 1960.
use Rattle.std.specs.Prelude.{ℕ, List, ◌++◌, codes, replicate}

-- the header, and the trailer, each with its line feed
abbrev example_header : List ℕ
example_header = codes "HDTPS.UDFROC1.PD6001010101600000DFROC1A       FA040160060160                    \n"

abbrev example_trailer : List ℕ
example_trailer = codes "ZZ" ++ replicate 78 32 ++ codes "\n"

-- ---- an association that is new, with a mask of all weekdays, on all days of the window

abbrev pub example_input : List ℕ
example_input =
    example_header
    ++ codes "AANW00001W000026001046001061111111NPSCREWE    TP                               N\n"
    ++ example_trailer

-- the record is permanent, and its mask has the three weekdays
abbrev pub example_canonical : List ℕ
example_canonical =
    example_header
    ++ codes "AANW00001W000026001046001061110000NPSCREWE    TP                               P\n"
    ++ example_trailer

-- ---- a schedule that doesn't run on bank holidays, of which the second day is one

abbrev pub example_holidays : List ℕ
example_holidays = codes "X 600105\n"

-- its journey
abbrev example_journey : List ℕ
example_journey =
    codes "LOCREWE   0900                                                                  \n"
    ++ codes "LTEUSTON  1100                                                                  \n"

abbrev pub example_feed : List ℕ
example_feed =
    example_header
    ++ codes "BSNW000016001046001061110000X                                                  P\n"
    ++ example_journey
    ++ example_trailer

-- it becomes two, of the days before the holiday and of those after it
abbrev pub example_prepared : List ℕ
example_prepared =
    example_header
    ++ codes "BSNW000016001046001041110000                                                   P\n"
    ++ example_journey
    ++ codes "BSNW000016001066001061110000                                                   P\n"
    ++ example_journey
    ++ example_trailer

-- and these are one record of the week, with a mask of the two weekdays
abbrev pub example_prepared_canonical : List ℕ
example_prepared_canonical =
    example_header
    ++ codes "BSNW000016001046001061010000                                                   P\n"
    ++ example_journey
    ++ example_trailer
