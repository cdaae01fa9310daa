mod ReadLaws
mod BookLaws
