mod CallLaws
mod StoredLaws
mod WalkLaws
mod BuildLaws
mod DescentLaws
