pub mod FrameWords
