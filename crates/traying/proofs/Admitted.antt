-- What is told of a tray, by its three tests and the scans.
use Rattle.traying.specs.Given.{given_record, given_tray, given_verdicts, given_scans}

pub ruleset admitted_rules = (given_record, given_tray, given_verdicts, given_scans)
