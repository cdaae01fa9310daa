pub mod ReaderAt
