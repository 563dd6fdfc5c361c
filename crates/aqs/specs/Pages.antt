-- The texts of the pages.
use Rattle.std.specs.Prelude.{ℕ, List}
use Rattle.aqs.specs.declared.page.Page.{Page}
use Rattle.aqs.specs.declared.page.Page.TheVariants.{Overview, Replay, Audit, Explain, Summary, Draw, Run, About}
use Rattle.aqs.specs.declared.texts.TheConstants.{ABOUT, AUDIT, DRAW, EXPLAIN, OVERVIEW, REPLAY, RUN, SUMMARY}

abbrev pub page_text : Page → List ℕ
page_text Overview = OVERVIEW.now
page_text Replay = REPLAY.now
page_text Audit = AUDIT.now
page_text Explain = EXPLAIN.now
page_text Summary = SUMMARY.now
page_text Draw = DRAW.now
page_text Run = RUN.now
page_text About = ABOUT.now
