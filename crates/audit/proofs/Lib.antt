mod TakenLaws
mod CheckLaws
mod FitLaws
mod PassLaws
