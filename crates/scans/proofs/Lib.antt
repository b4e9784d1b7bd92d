mod Files
