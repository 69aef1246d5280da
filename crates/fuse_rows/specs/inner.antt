pub mod ChunkBytes
